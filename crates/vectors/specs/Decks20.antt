-- Decks with their inputs and traces. Assumes nothing.
use Rattle.std.specs.Prelude.{true, ◌≡◌, refl}
use Rattle.vectors.specs.Trace.{agrees, agrees_whole}

v189 : agrees "         PROG RAM LOTS\n         NUMBER N,M\n         M=NUMBER(B)-M                                                  SEQ70585\nX9       GOTO DONE                                                      SEQ62115\n* COMMENT 1\n         ROUTINE R1\nL3       RETURN\n         SCAN B[(A ),(C),(C$2)]/L  1\n L1      M  =10\n         C$0005=\"*\",\"1\"\nLOOP     ENDROUTINE\nDONE     SCAN C$M[(A),C$2,B,( A)]= B  $ M  /X9,X9\n         SCAN A[STRING(-1,N)]/DONE,X9\n        CBACKSCAN B $6[\"1$,3+\",A,(A$1),\"A\",(  A$M) ,(A$3) ,(A)]=C,\"11B\",\n         B,\"=\"/L2\nL2       END\n" "\n,\n" "step 1: n=0 notes=1 split=- trials=0 in=0 out=0 state=running next=4 held=[] numbers={N:0,M:0} strings={B:,A:,C:}\nstep 2: n=0 notes=0 split=- trials=0 in=0 out=0 state=running next=12 held=[] numbers={N:0,M:0} strings={B:,A:,C:}\nstep 3: n=0 notes=0 split=0;0,0,0,0 trials=2 in=0 out=0 state=running next=4 held=[] numbers={N:0,M:0} strings={B:,A:,C:}\nstep 4: n=0 notes=0 split=- trials=0 in=0 out=0 state=running next=12 held=[] numbers={N:0,M:0} strings={B:,A:,C:}\nstep 5: n=0 notes=0 split=0;0,0,0,0 trials=2 in=0 out=0 state=running next=4 held=[] numbers={N:0,M:0} strings={B:,A:,C:}\nstep 6: n=0 notes=0 split=- trials=0 in=0 out=0 state=running next=12 held=[] numbers={N:0,M:0} strings={B:,A:,C:}\nstep 7: n=0 notes=0 split=0;0,0,0,0 trials=2 in=0 out=0 state=running next=4 held=[] numbers={N:0,M:0} strings={B:,A:,C:}\nstep 8: n=0 notes=0 split=- trials=0 in=0 out=0 state=running next=12 held=[] numbers={N:0,M:0} strings={B:,A:,C:}\nstep 9: n=0 notes=0 split=0;0,0,0,0 trials=2 in=0 out=0 state=running next=4 held=[] numbers={N:0,M:0} strings={B:,A:,C:}\nstep 10: n=0 notes=0 split=- trials=0 in=0 out=0 state=running next=12 held=[] numbers={N:0,M:0} strings={B:,A:,C:}\nstep 11: n=0 notes=0 split=0;0,0,0,0 trials=2 in=0 out=0 state=running next=4 held=[] numbers={N:0,M:0} strings={B:,A:,C:}\nstep 12: n=0 notes=0 split=- trials=0 in=0 out=0 state=running next=12 held=[] numbers={N:0,M:0} strings={B:,A:,C:}\nstep 13: n=0 notes=0 split=0;0,0,0,0 trials=2 in=0 out=0 state=running next=4 held=[] numbers={N:0,M:0} strings={B:,A:,C:}\nstep 14: n=0 notes=0 split=- trials=0 in=0 out=0 state=running next=12 held=[] numbers={N:0,M:0} strings={B:,A:,C:}\nstep 15: n=0 notes=0 split=0;0,0,0,0 trials=2 in=0 out=0 state=running next=4 held=[] numbers={N:0,M:0} strings={B:,A:,C:}\nstep 16: n=0 notes=0 split=- trials=0 in=0 out=0 state=running next=12 held=[] numbers={N:0,M:0} strings={B:,A:,C:}\nstep 17: n=0 notes=0 split=0;0,0,0,0 trials=2 in=0 out=0 state=running next=4 held=[] numbers={N:0,M:0} strings={B:,A:,C:}\nstep 18: n=0 notes=0 split=- trials=0 in=0 out=0 state=running next=12 held=[] numbers={N:0,M:0} strings={B:,A:,C:}\nstep 19: n=0 notes=0 split=0;0,0,0,0 trials=2 in=0 out=0 state=running next=4 held=[] numbers={N:0,M:0} strings={B:,A:,C:}\nstep 20: n=0 notes=0 split=- trials=0 in=0 out=0 state=running next=12 held=[] numbers={N:0,M:0} strings={B:,A:,C:}\nstep 21: n=0 notes=0 split=0;0,0,0,0 trials=2 in=0 out=0 state=running next=4 held=[] numbers={N:0,M:0} strings={B:,A:,C:}\nstep 22: n=0 notes=0 split=- trials=0 in=0 out=0 state=running next=12 held=[] numbers={N:0,M:0} strings={B:,A:,C:}\nstep 23: n=0 notes=0 split=0;0,0,0,0 trials=2 in=0 out=0 state=running next=4 held=[] numbers={N:0,M:0} strings={B:,A:,C:}\nstep 24: n=0 notes=0 split=- trials=0 in=0 out=0 state=running next=12 held=[] numbers={N:0,M:0} strings={B:,A:,C:}\nstep 25: n=0 notes=0 split=0;0,0,0,0 trials=2 in=0 out=0 state=running next=4 held=[] numbers={N:0,M:0} strings={B:,A:,C:}\nstep 26: n=0 notes=0 split=- trials=0 in=0 out=0 state=running next=12 held=[] numbers={N:0,M:0} strings={B:,A:,C:}\nstep 27: n=0 notes=0 split=0;0,0,0,0 trials=2 in=0 out=0 state=running next=4 held=[] numbers={N:0,M:0} strings={B:,A:,C:}\nstep 28: n=0 notes=0 split=- trials=0 in=0 out=0 state=running next=12 held=[] numbers={N:0,M:0} strings={B:,A:,C:}\nstep 29: n=0 notes=0 split=0;0,0,0,0 trials=2 in=0 out=0 state=running next=4 held=[] numbers={N:0,M:0} strings={B:,A:,C:}\nstep 30: n=0 notes=0 split=- trials=0 in=0 out=0 state=running next=12 held=[] numbers={N:0,M:0} strings={B:,A:,C:}\nstep 31: n=0 notes=0 split=0;0,0,0,0 trials=2 in=0 out=0 state=running next=4 held=[] numbers={N:0,M:0} strings={B:,A:,C:}\nstep 32: n=0 notes=0 split=- trials=0 in=0 out=0 state=running next=12 held=[] numbers={N:0,M:0} strings={B:,A:,C:}\nstep 33: n=0 notes=0 split=0;0,0,0,0 trials=2 in=0 out=0 state=running next=4 held=[] numbers={N:0,M:0} strings={B:,A:,C:}\nstep 34: n=0 notes=0 split=- trials=0 in=0 out=0 state=running next=12 held=[] numbers={N:0,M:0} strings={B:,A:,C:}\nstep 35: n=0 notes=0 split=0;0,0,0,0 trials=2 in=0 out=0 state=running next=4 held=[] numbers={N:0,M:0} strings={B:,A:,C:}\nstep 36: n=0 notes=0 split=- trials=0 in=0 out=0 state=running next=12 held=[] numbers={N:0,M:0} strings={B:,A:,C:}\nstep 37: n=0 notes=0 split=0;0,0,0,0 trials=2 in=0 out=0 state=running next=4 held=[] numbers={N:0,M:0} strings={B:,A:,C:}\nstep 38: n=0 notes=0 split=- trials=0 in=0 out=0 state=running next=12 held=[] numbers={N:0,M:0} strings={B:,A:,C:}\nstep 39: n=0 notes=0 split=0;0,0,0,0 trials=2 in=0 out=0 state=running next=4 held=[] numbers={N:0,M:0} strings={B:,A:,C:}\nstep 40: n=0 notes=0 split=- trials=0 in=0 out=0 state=running next=12 held=[] numbers={N:0,M:0} strings={B:,A:,C:}\nstep 41: n=0 notes=0 split=0;0,0,0,0 trials=2 in=0 out=0 state=running next=4 held=[] numbers={N:0,M:0} strings={B:,A:,C:}\nstep 42: n=0 notes=0 split=- trials=0 in=0 out=0 state=running next=12 held=[] numbers={N:0,M:0} strings={B:,A:,C:}\nstep 43: n=0 notes=0 split=0;0,0,0,0 trials=2 in=0 out=0 state=running next=4 held=[] numbers={N:0,M:0} strings={B:,A:,C:}\nstep 44: n=0 notes=0 split=- trials=0 in=0 out=0 state=running next=12 held=[] numbers={N:0,M:0} strings={B:,A:,C:}\nstep 45: n=0 notes=0 split=0;0,0,0,0 trials=2 in=0 out=0 state=running next=4 held=[] numbers={N:0,M:0} strings={B:,A:,C:}\nstep 46: n=0 notes=0 split=- trials=0 in=0 out=0 state=running next=12 held=[] numbers={N:0,M:0} strings={B:,A:,C:}\nstep 47: n=0 notes=0 split=0;0,0,0,0 trials=2 in=0 out=0 state=running next=4 held=[] numbers={N:0,M:0} strings={B:,A:,C:}\nstep 48: n=0 notes=0 split=- trials=0 in=0 out=0 state=running next=12 held=[] numbers={N:0,M:0} strings={B:,A:,C:}\nstep 49: n=0 notes=0 split=0;0,0,0,0 trials=2 in=0 out=0 state=running next=4 held=[] numbers={N:0,M:0} strings={B:,A:,C:}\nstep 50: n=0 notes=0 split=- trials=0 in=0 out=0 state=running next=12 held=[] numbers={N:0,M:0} strings={B:,A:,C:}\nstep 51: n=0 notes=0 split=0;0,0,0,0 trials=2 in=0 out=0 state=running next=4 held=[] numbers={N:0,M:0} strings={B:,A:,C:}\nstep 52: n=0 notes=0 split=- trials=0 in=0 out=0 state=running next=12 held=[] numbers={N:0,M:0} strings={B:,A:,C:}\nstep 53: n=0 notes=0 split=0;0,0,0,0 trials=2 in=0 out=0 state=running next=4 held=[] numbers={N:0,M:0} strings={B:,A:,C:}\nstep 54: n=0 notes=0 split=- trials=0 in=0 out=0 state=running next=12 held=[] numbers={N:0,M:0} strings={B:,A:,C:}\nstep 55: n=0 notes=0 split=0;0,0,0,0 trials=2 in=0 out=0 state=running next=4 held=[] numbers={N:0,M:0} strings={B:,A:,C:}\nstep 56: n=0 notes=0 split=- trials=0 in=0 out=0 state=running next=12 held=[] numbers={N:0,M:0} strings={B:,A:,C:}\nstep 57: n=0 notes=0 split=0;0,0,0,0 trials=2 in=0 out=0 state=running next=4 held=[] numbers={N:0,M:0} strings={B:,A:,C:}\nstep 58: n=0 notes=0 split=- trials=0 in=0 out=0 state=running next=12 held=[] numbers={N:0,M:0} strings={B:,A:,C:}\nstep 59: n=0 notes=0 split=0;0,0,0,0 trials=2 in=0 out=0 state=running next=4 held=[] numbers={N:0,M:0} strings={B:,A:,C:}\nstep 60: n=0 notes=0 split=- trials=0 in=0 out=0 state=running next=12 held=[] numbers={N:0,M:0} strings={B:,A:,C:}\n" ≡ true
unfolding agrees
v189 = refl

v190 : agrees "         PROGRAM LOTS\n         NUMBER N,M,I,K9\nL3       R  OU TINE R1\n         PRINT \" A\"                                                     SEQ30635\nLOOP     SCAN C[\"A\"]/,LOOP\nL2       EN  DROUTIN E\n         READ F/,X9\n X9      G=STRING(I),STRING(M,N)\nL1       BACKSCAN B[TEXTLONG,STRING(N,K9),(LINE),(S1)]/,L1\n        *TEXTLO\n        CNG=S1$\n         I,S1                                                           SEQ94223\nDONE     END\n" "0,-\n1,A\n+-B\n,2B2,, B- 2,11+,A-0B, A A+ +-A0A1- ,+1B2\n0A \n\n\nA+,02AB+AA2,\n" "step 1: n=0 notes=0 split=- trials=0 in=0 out=0 state=running next=7 held=[] numbers={N:0,M:0,I:0,K9:0} strings={C:,F:,G:,B:,TEXTLONG:,LINE:,S1:}\nstep 2: n=0 notes=0 split=- trials=0 in=4 out=0 state=running next=8 held=[] numbers={N:0,M:0,I:0,K9:0} strings={C:,F:302c2d,G:,B:,TEXTLONG:,LINE:,S1:}\nstep 3: n=0 notes=0 split=- trials=0 in=4 out=0 state=running next=9 held=[] numbers={N:0,M:0,I:0,K9:0} strings={C:,F:302c2d,G:3030,B:,TEXTLONG:,LINE:,S1:}\nstep 4: n=0 notes=0 split=- trials=2 in=4 out=0 state=running next=9 held=[] numbers={N:0,M:0,I:0,K9:0} strings={C:,F:302c2d,G:3030,B:,TEXTLONG:,LINE:,S1:}\nstep 5: n=0 notes=0 split=- trials=2 in=4 out=0 state=running next=9 held=[] numbers={N:0,M:0,I:0,K9:0} strings={C:,F:302c2d,G:3030,B:,TEXTLONG:,LINE:,S1:}\nstep 6: n=0 notes=0 split=- trials=2 in=4 out=0 state=running next=9 held=[] numbers={N:0,M:0,I:0,K9:0} strings={C:,F:302c2d,G:3030,B:,TEXTLONG:,LINE:,S1:}\nstep 7: n=0 notes=0 split=- trials=2 in=4 out=0 state=running next=9 held=[] numbers={N:0,M:0,I:0,K9:0} strings={C:,F:302c2d,G:3030,B:,TEXTLONG:,LINE:,S1:}\nstep 8: n=0 notes=0 split=- trials=2 in=4 out=0 state=running next=9 held=[] numbers={N:0,M:0,I:0,K9:0} strings={C:,F:302c2d,G:3030,B:,TEXTLONG:,LINE:,S1:}\nstep 9: n=0 notes=0 split=- trials=2 in=4 out=0 state=running next=9 held=[] numbers={N:0,M:0,I:0,K9:0} strings={C:,F:302c2d,G:3030,B:,TEXTLONG:,LINE:,S1:}\nstep 10: n=0 notes=0 split=- trials=2 in=4 out=0 state=running next=9 held=[] numbers={N:0,M:0,I:0,K9:0} strings={C:,F:302c2d,G:3030,B:,TEXTLONG:,LINE:,S1:}\nstep 11: n=0 notes=0 split=- trials=2 in=4 out=0 state=running next=9 held=[] numbers={N:0,M:0,I:0,K9:0} strings={C:,F:302c2d,G:3030,B:,TEXTLONG:,LINE:,S1:}\nstep 12: n=0 notes=0 split=- trials=2 in=4 out=0 state=running next=9 held=[] numbers={N:0,M:0,I:0,K9:0} strings={C:,F:302c2d,G:3030,B:,TEXTLONG:,LINE:,S1:}\nstep 13: n=0 notes=0 split=- trials=2 in=4 out=0 state=running next=9 held=[] numbers={N:0,M:0,I:0,K9:0} strings={C:,F:302c2d,G:3030,B:,TEXTLONG:,LINE:,S1:}\nstep 14: n=0 notes=0 split=- trials=2 in=4 out=0 state=running next=9 held=[] numbers={N:0,M:0,I:0,K9:0} strings={C:,F:302c2d,G:3030,B:,TEXTLONG:,LINE:,S1:}\nstep 15: n=0 notes=0 split=- trials=2 in=4 out=0 state=running next=9 held=[] numbers={N:0,M:0,I:0,K9:0} strings={C:,F:302c2d,G:3030,B:,TEXTLONG:,LINE:,S1:}\nstep 16: n=0 notes=0 split=- trials=2 in=4 out=0 state=running next=9 held=[] numbers={N:0,M:0,I:0,K9:0} strings={C:,F:302c2d,G:3030,B:,TEXTLONG:,LINE:,S1:}\nstep 17: n=0 notes=0 split=- trials=2 in=4 out=0 state=running next=9 held=[] numbers={N:0,M:0,I:0,K9:0} strings={C:,F:302c2d,G:3030,B:,TEXTLONG:,LINE:,S1:}\nstep 18: n=0 notes=0 split=- trials=2 in=4 out=0 state=running next=9 held=[] numbers={N:0,M:0,I:0,K9:0} strings={C:,F:302c2d,G:3030,B:,TEXTLONG:,LINE:,S1:}\nstep 19: n=0 notes=0 split=- trials=2 in=4 out=0 state=running next=9 held=[] numbers={N:0,M:0,I:0,K9:0} strings={C:,F:302c2d,G:3030,B:,TEXTLONG:,LINE:,S1:}\nstep 20: n=0 notes=0 split=- trials=2 in=4 out=0 state=running next=9 held=[] numbers={N:0,M:0,I:0,K9:0} strings={C:,F:302c2d,G:3030,B:,TEXTLONG:,LINE:,S1:}\nstep 21: n=0 notes=0 split=- trials=2 in=4 out=0 state=running next=9 held=[] numbers={N:0,M:0,I:0,K9:0} strings={C:,F:302c2d,G:3030,B:,TEXTLONG:,LINE:,S1:}\nstep 22: n=0 notes=0 split=- trials=2 in=4 out=0 state=running next=9 held=[] numbers={N:0,M:0,I:0,K9:0} strings={C:,F:302c2d,G:3030,B:,TEXTLONG:,LINE:,S1:}\nstep 23: n=0 notes=0 split=- trials=2 in=4 out=0 state=running next=9 held=[] numbers={N:0,M:0,I:0,K9:0} strings={C:,F:302c2d,G:3030,B:,TEXTLONG:,LINE:,S1:}\nstep 24: n=0 notes=0 split=- trials=2 in=4 out=0 state=running next=9 held=[] numbers={N:0,M:0,I:0,K9:0} strings={C:,F:302c2d,G:3030,B:,TEXTLONG:,LINE:,S1:}\nstep 25: n=0 notes=0 split=- trials=2 in=4 out=0 state=running next=9 held=[] numbers={N:0,M:0,I:0,K9:0} strings={C:,F:302c2d,G:3030,B:,TEXTLONG:,LINE:,S1:}\nstep 26: n=0 notes=0 split=- trials=2 in=4 out=0 state=running next=9 held=[] numbers={N:0,M:0,I:0,K9:0} strings={C:,F:302c2d,G:3030,B:,TEXTLONG:,LINE:,S1:}\nstep 27: n=0 notes=0 split=- trials=2 in=4 out=0 state=running next=9 held=[] numbers={N:0,M:0,I:0,K9:0} strings={C:,F:302c2d,G:3030,B:,TEXTLONG:,LINE:,S1:}\nstep 28: n=0 notes=0 split=- trials=2 in=4 out=0 state=running next=9 held=[] numbers={N:0,M:0,I:0,K9:0} strings={C:,F:302c2d,G:3030,B:,TEXTLONG:,LINE:,S1:}\nstep 29: n=0 notes=0 split=- trials=2 in=4 out=0 state=running next=9 held=[] numbers={N:0,M:0,I:0,K9:0} strings={C:,F:302c2d,G:3030,B:,TEXTLONG:,LINE:,S1:}\nstep 30: n=0 notes=0 split=- trials=2 in=4 out=0 state=running next=9 held=[] numbers={N:0,M:0,I:0,K9:0} strings={C:,F:302c2d,G:3030,B:,TEXTLONG:,LINE:,S1:}\nstep 31: n=0 notes=0 split=- trials=2 in=4 out=0 state=running next=9 held=[] numbers={N:0,M:0,I:0,K9:0} strings={C:,F:302c2d,G:3030,B:,TEXTLONG:,LINE:,S1:}\nstep 32: n=0 notes=0 split=- trials=2 in=4 out=0 state=running next=9 held=[] numbers={N:0,M:0,I:0,K9:0} strings={C:,F:302c2d,G:3030,B:,TEXTLONG:,LINE:,S1:}\nstep 33: n=0 notes=0 split=- trials=2 in=4 out=0 state=running next=9 held=[] numbers={N:0,M:0,I:0,K9:0} strings={C:,F:302c2d,G:3030,B:,TEXTLONG:,LINE:,S1:}\nstep 34: n=0 notes=0 split=- trials=2 in=4 out=0 state=running next=9 held=[] numbers={N:0,M:0,I:0,K9:0} strings={C:,F:302c2d,G:3030,B:,TEXTLONG:,LINE:,S1:}\nstep 35: n=0 notes=0 split=- trials=2 in=4 out=0 state=running next=9 held=[] numbers={N:0,M:0,I:0,K9:0} strings={C:,F:302c2d,G:3030,B:,TEXTLONG:,LINE:,S1:}\nstep 36: n=0 notes=0 split=- trials=2 in=4 out=0 state=running next=9 held=[] numbers={N:0,M:0,I:0,K9:0} strings={C:,F:302c2d,G:3030,B:,TEXTLONG:,LINE:,S1:}\nstep 37: n=0 notes=0 split=- trials=2 in=4 out=0 state=running next=9 held=[] numbers={N:0,M:0,I:0,K9:0} strings={C:,F:302c2d,G:3030,B:,TEXTLONG:,LINE:,S1:}\nstep 38: n=0 notes=0 split=- trials=2 in=4 out=0 state=running next=9 held=[] numbers={N:0,M:0,I:0,K9:0} strings={C:,F:302c2d,G:3030,B:,TEXTLONG:,LINE:,S1:}\nstep 39: n=0 notes=0 split=- trials=2 in=4 out=0 state=running next=9 held=[] numbers={N:0,M:0,I:0,K9:0} strings={C:,F:302c2d,G:3030,B:,TEXTLONG:,LINE:,S1:}\nstep 40: n=0 notes=0 split=- trials=2 in=4 out=0 state=running next=9 held=[] numbers={N:0,M:0,I:0,K9:0} strings={C:,F:302c2d,G:3030,B:,TEXTLONG:,LINE:,S1:}\nstep 41: n=0 notes=0 split=- trials=2 in=4 out=0 state=running next=9 held=[] numbers={N:0,M:0,I:0,K9:0} strings={C:,F:302c2d,G:3030,B:,TEXTLONG:,LINE:,S1:}\nstep 42: n=0 notes=0 split=- trials=2 in=4 out=0 state=running next=9 held=[] numbers={N:0,M:0,I:0,K9:0} strings={C:,F:302c2d,G:3030,B:,TEXTLONG:,LINE:,S1:}\nstep 43: n=0 notes=0 split=- trials=2 in=4 out=0 state=running next=9 held=[] numbers={N:0,M:0,I:0,K9:0} strings={C:,F:302c2d,G:3030,B:,TEXTLONG:,LINE:,S1:}\nstep 44: n=0 notes=0 split=- trials=2 in=4 out=0 state=running next=9 held=[] numbers={N:0,M:0,I:0,K9:0} strings={C:,F:302c2d,G:3030,B:,TEXTLONG:,LINE:,S1:}\nstep 45: n=0 notes=0 split=- trials=2 in=4 out=0 state=running next=9 held=[] numbers={N:0,M:0,I:0,K9:0} strings={C:,F:302c2d,G:3030,B:,TEXTLONG:,LINE:,S1:}\nstep 46: n=0 notes=0 split=- trials=2 in=4 out=0 state=running next=9 held=[] numbers={N:0,M:0,I:0,K9:0} strings={C:,F:302c2d,G:3030,B:,TEXTLONG:,LINE:,S1:}\nstep 47: n=0 notes=0 split=- trials=2 in=4 out=0 state=running next=9 held=[] numbers={N:0,M:0,I:0,K9:0} strings={C:,F:302c2d,G:3030,B:,TEXTLONG:,LINE:,S1:}\nstep 48: n=0 notes=0 split=- trials=2 in=4 out=0 state=running next=9 held=[] numbers={N:0,M:0,I:0,K9:0} strings={C:,F:302c2d,G:3030,B:,TEXTLONG:,LINE:,S1:}\nstep 49: n=0 notes=0 split=- trials=2 in=4 out=0 state=running next=9 held=[] numbers={N:0,M:0,I:0,K9:0} strings={C:,F:302c2d,G:3030,B:,TEXTLONG:,LINE:,S1:}\nstep 50: n=0 notes=0 split=- trials=2 in=4 out=0 state=running next=9 held=[] numbers={N:0,M:0,I:0,K9:0} strings={C:,F:302c2d,G:3030,B:,TEXTLONG:,LINE:,S1:}\nstep 51: n=0 notes=0 split=- trials=2 in=4 out=0 state=running next=9 held=[] numbers={N:0,M:0,I:0,K9:0} strings={C:,F:302c2d,G:3030,B:,TEXTLONG:,LINE:,S1:}\nstep 52: n=0 notes=0 split=- trials=2 in=4 out=0 state=running next=9 held=[] numbers={N:0,M:0,I:0,K9:0} strings={C:,F:302c2d,G:3030,B:,TEXTLONG:,LINE:,S1:}\nstep 53: n=0 notes=0 split=- trials=2 in=4 out=0 state=running next=9 held=[] numbers={N:0,M:0,I:0,K9:0} strings={C:,F:302c2d,G:3030,B:,TEXTLONG:,LINE:,S1:}\nstep 54: n=0 notes=0 split=- trials=2 in=4 out=0 state=running next=9 held=[] numbers={N:0,M:0,I:0,K9:0} strings={C:,F:302c2d,G:3030,B:,TEXTLONG:,LINE:,S1:}\nstep 55: n=0 notes=0 split=- trials=2 in=4 out=0 state=running next=9 held=[] numbers={N:0,M:0,I:0,K9:0} strings={C:,F:302c2d,G:3030,B:,TEXTLONG:,LINE:,S1:}\nstep 56: n=0 notes=0 split=- trials=2 in=4 out=0 state=running next=9 held=[] numbers={N:0,M:0,I:0,K9:0} strings={C:,F:302c2d,G:3030,B:,TEXTLONG:,LINE:,S1:}\nstep 57: n=0 notes=0 split=- trials=2 in=4 out=0 state=running next=9 held=[] numbers={N:0,M:0,I:0,K9:0} strings={C:,F:302c2d,G:3030,B:,TEXTLONG:,LINE:,S1:}\nstep 58: n=0 notes=0 split=- trials=2 in=4 out=0 state=running next=9 held=[] numbers={N:0,M:0,I:0,K9:0} strings={C:,F:302c2d,G:3030,B:,TEXTLONG:,LINE:,S1:}\nstep 59: n=0 notes=0 split=- trials=2 in=4 out=0 state=running next=9 held=[] numbers={N:0,M:0,I:0,K9:0} strings={C:,F:302c2d,G:3030,B:,TEXTLONG:,LINE:,S1:}\nstep 60: n=0 notes=0 split=- trials=2 in=4 out=0 state=running next=9 held=[] numbers={N:0,M:0,I:0,K9:0} strings={C:,F:302c2d,G:3030,B:,TEXTLONG:,LINE:,S1:}\n" ≡ true
unfolding agrees
v190 = refl

v191 : agrees "         PROGRAM P\n         NUMBER N,M,I,K9\nL3       B=\"21 BB\",STRING(M)\nL2       A=B,STRING(M)\nL1       N=M\nLOOP     READ(60) B/,L3                                                 SEQ77463\nDONE     READ(60) B\n X9      END\n" "" "step 1: n=0 notes=0 split=- trials=0 in=0 out=0 state=running next=4 held=[] numbers={N:0,M:0,I:0,K9:0} strings={B:323120424230,A:}\nstep 2: n=0 notes=0 split=- trials=0 in=0 out=0 state=running next=5 held=[] numbers={N:0,M:0,I:0,K9:0} strings={B:323120424230,A:32312042423030}\nstep 3: n=0 notes=0 split=- trials=0 in=0 out=0 state=running next=6 held=[] numbers={N:0,M:0,I:0,K9:0} strings={B:323120424230,A:32312042423030}\nstep 4: n=0 notes=0 split=- trials=0 in=0 out=0 state=running next=3 held=[] numbers={N:0,M:0,I:0,K9:0} strings={B:323120424230,A:32312042423030}\nstep 5: n=0 notes=0 split=- trials=0 in=0 out=0 state=running next=4 held=[] numbers={N:0,M:0,I:0,K9:0} strings={B:323120424230,A:32312042423030}\nstep 6: n=0 notes=0 split=- trials=0 in=0 out=0 state=running next=5 held=[] numbers={N:0,M:0,I:0,K9:0} strings={B:323120424230,A:32312042423030}\nstep 7: n=0 notes=0 split=- trials=0 in=0 out=0 state=running next=6 held=[] numbers={N:0,M:0,I:0,K9:0} strings={B:323120424230,A:32312042423030}\nstep 8: n=0 notes=0 split=- trials=0 in=0 out=0 state=running next=3 held=[] numbers={N:0,M:0,I:0,K9:0} strings={B:323120424230,A:32312042423030}\nstep 9: n=0 notes=0 split=- trials=0 in=0 out=0 state=running next=4 held=[] numbers={N:0,M:0,I:0,K9:0} strings={B:323120424230,A:32312042423030}\nstep 10: n=0 notes=0 split=- trials=0 in=0 out=0 state=running next=5 held=[] numbers={N:0,M:0,I:0,K9:0} strings={B:323120424230,A:32312042423030}\nstep 11: n=0 notes=0 split=- trials=0 in=0 out=0 state=running next=6 held=[] numbers={N:0,M:0,I:0,K9:0} strings={B:323120424230,A:32312042423030}\nstep 12: n=0 notes=0 split=- trials=0 in=0 out=0 state=running next=3 held=[] numbers={N:0,M:0,I:0,K9:0} strings={B:323120424230,A:32312042423030}\nstep 13: n=0 notes=0 split=- trials=0 in=0 out=0 state=running next=4 held=[] numbers={N:0,M:0,I:0,K9:0} strings={B:323120424230,A:32312042423030}\nstep 14: n=0 notes=0 split=- trials=0 in=0 out=0 state=running next=5 held=[] numbers={N:0,M:0,I:0,K9:0} strings={B:323120424230,A:32312042423030}\nstep 15: n=0 notes=0 split=- trials=0 in=0 out=0 state=running next=6 held=[] numbers={N:0,M:0,I:0,K9:0} strings={B:323120424230,A:32312042423030}\nstep 16: n=0 notes=0 split=- trials=0 in=0 out=0 state=running next=3 held=[] numbers={N:0,M:0,I:0,K9:0} strings={B:323120424230,A:32312042423030}\nstep 17: n=0 notes=0 split=- trials=0 in=0 out=0 state=running next=4 held=[] numbers={N:0,M:0,I:0,K9:0} strings={B:323120424230,A:32312042423030}\nstep 18: n=0 notes=0 split=- trials=0 in=0 out=0 state=running next=5 held=[] numbers={N:0,M:0,I:0,K9:0} strings={B:323120424230,A:32312042423030}\nstep 19: n=0 notes=0 split=- trials=0 in=0 out=0 state=running next=6 held=[] numbers={N:0,M:0,I:0,K9:0} strings={B:323120424230,A:32312042423030}\nstep 20: n=0 notes=0 split=- trials=0 in=0 out=0 state=running next=3 held=[] numbers={N:0,M:0,I:0,K9:0} strings={B:323120424230,A:32312042423030}\nstep 21: n=0 notes=0 split=- trials=0 in=0 out=0 state=running next=4 held=[] numbers={N:0,M:0,I:0,K9:0} strings={B:323120424230,A:32312042423030}\nstep 22: n=0 notes=0 split=- trials=0 in=0 out=0 state=running next=5 held=[] numbers={N:0,M:0,I:0,K9:0} strings={B:323120424230,A:32312042423030}\nstep 23: n=0 notes=0 split=- trials=0 in=0 out=0 state=running next=6 held=[] numbers={N:0,M:0,I:0,K9:0} strings={B:323120424230,A:32312042423030}\nstep 24: n=0 notes=0 split=- trials=0 in=0 out=0 state=running next=3 held=[] numbers={N:0,M:0,I:0,K9:0} strings={B:323120424230,A:32312042423030}\nstep 25: n=0 notes=0 split=- trials=0 in=0 out=0 state=running next=4 held=[] numbers={N:0,M:0,I:0,K9:0} strings={B:323120424230,A:32312042423030}\nstep 26: n=0 notes=0 split=- trials=0 in=0 out=0 state=running next=5 held=[] numbers={N:0,M:0,I:0,K9:0} strings={B:323120424230,A:32312042423030}\nstep 27: n=0 notes=0 split=- trials=0 in=0 out=0 state=running next=6 held=[] numbers={N:0,M:0,I:0,K9:0} strings={B:323120424230,A:32312042423030}\nstep 28: n=0 notes=0 split=- trials=0 in=0 out=0 state=running next=3 held=[] numbers={N:0,M:0,I:0,K9:0} strings={B:323120424230,A:32312042423030}\nstep 29: n=0 notes=0 split=- trials=0 in=0 out=0 state=running next=4 held=[] numbers={N:0,M:0,I:0,K9:0} strings={B:323120424230,A:32312042423030}\nstep 30: n=0 notes=0 split=- trials=0 in=0 out=0 state=running next=5 held=[] numbers={N:0,M:0,I:0,K9:0} strings={B:323120424230,A:32312042423030}\nstep 31: n=0 notes=0 split=- trials=0 in=0 out=0 state=running next=6 held=[] numbers={N:0,M:0,I:0,K9:0} strings={B:323120424230,A:32312042423030}\nstep 32: n=0 notes=0 split=- trials=0 in=0 out=0 state=running next=3 held=[] numbers={N:0,M:0,I:0,K9:0} strings={B:323120424230,A:32312042423030}\nstep 33: n=0 notes=0 split=- trials=0 in=0 out=0 state=running next=4 held=[] numbers={N:0,M:0,I:0,K9:0} strings={B:323120424230,A:32312042423030}\nstep 34: n=0 notes=0 split=- trials=0 in=0 out=0 state=running next=5 held=[] numbers={N:0,M:0,I:0,K9:0} strings={B:323120424230,A:32312042423030}\nstep 35: n=0 notes=0 split=- trials=0 in=0 out=0 state=running next=6 held=[] numbers={N:0,M:0,I:0,K9:0} strings={B:323120424230,A:32312042423030}\nstep 36: n=0 notes=0 split=- trials=0 in=0 out=0 state=running next=3 held=[] numbers={N:0,M:0,I:0,K9:0} strings={B:323120424230,A:32312042423030}\nstep 37: n=0 notes=0 split=- trials=0 in=0 out=0 state=running next=4 held=[] numbers={N:0,M:0,I:0,K9:0} strings={B:323120424230,A:32312042423030}\nstep 38: n=0 notes=0 split=- trials=0 in=0 out=0 state=running next=5 held=[] numbers={N:0,M:0,I:0,K9:0} strings={B:323120424230,A:32312042423030}\nstep 39: n=0 notes=0 split=- trials=0 in=0 out=0 state=running next=6 held=[] numbers={N:0,M:0,I:0,K9:0} strings={B:323120424230,A:32312042423030}\nstep 40: n=0 notes=0 split=- trials=0 in=0 out=0 state=running next=3 held=[] numbers={N:0,M:0,I:0,K9:0} strings={B:323120424230,A:32312042423030}\nstep 41: n=0 notes=0 split=- trials=0 in=0 out=0 state=running next=4 held=[] numbers={N:0,M:0,I:0,K9:0} strings={B:323120424230,A:32312042423030}\nstep 42: n=0 notes=0 split=- trials=0 in=0 out=0 state=running next=5 held=[] numbers={N:0,M:0,I:0,K9:0} strings={B:323120424230,A:32312042423030}\nstep 43: n=0 notes=0 split=- trials=0 in=0 out=0 state=running next=6 held=[] numbers={N:0,M:0,I:0,K9:0} strings={B:323120424230,A:32312042423030}\nstep 44: n=0 notes=0 split=- trials=0 in=0 out=0 state=running next=3 held=[] numbers={N:0,M:0,I:0,K9:0} strings={B:323120424230,A:32312042423030}\nstep 45: n=0 notes=0 split=- trials=0 in=0 out=0 state=running next=4 held=[] numbers={N:0,M:0,I:0,K9:0} strings={B:323120424230,A:32312042423030}\nstep 46: n=0 notes=0 split=- trials=0 in=0 out=0 state=running next=5 held=[] numbers={N:0,M:0,I:0,K9:0} strings={B:323120424230,A:32312042423030}\nstep 47: n=0 notes=0 split=- trials=0 in=0 out=0 state=running next=6 held=[] numbers={N:0,M:0,I:0,K9:0} strings={B:323120424230,A:32312042423030}\nstep 48: n=0 notes=0 split=- trials=0 in=0 out=0 state=running next=3 held=[] numbers={N:0,M:0,I:0,K9:0} strings={B:323120424230,A:32312042423030}\nstep 49: n=0 notes=0 split=- trials=0 in=0 out=0 state=running next=4 held=[] numbers={N:0,M:0,I:0,K9:0} strings={B:323120424230,A:32312042423030}\nstep 50: n=0 notes=0 split=- trials=0 in=0 out=0 state=running next=5 held=[] numbers={N:0,M:0,I:0,K9:0} strings={B:323120424230,A:32312042423030}\nstep 51: n=0 notes=0 split=- trials=0 in=0 out=0 state=running next=6 held=[] numbers={N:0,M:0,I:0,K9:0} strings={B:323120424230,A:32312042423030}\nstep 52: n=0 notes=0 split=- trials=0 in=0 out=0 state=running next=3 held=[] numbers={N:0,M:0,I:0,K9:0} strings={B:323120424230,A:32312042423030}\nstep 53: n=0 notes=0 split=- trials=0 in=0 out=0 state=running next=4 held=[] numbers={N:0,M:0,I:0,K9:0} strings={B:323120424230,A:32312042423030}\nstep 54: n=0 notes=0 split=- trials=0 in=0 out=0 state=running next=5 held=[] numbers={N:0,M:0,I:0,K9:0} strings={B:323120424230,A:32312042423030}\nstep 55: n=0 notes=0 split=- trials=0 in=0 out=0 state=running next=6 held=[] numbers={N:0,M:0,I:0,K9:0} strings={B:323120424230,A:32312042423030}\nstep 56: n=0 notes=0 split=- trials=0 in=0 out=0 state=running next=3 held=[] numbers={N:0,M:0,I:0,K9:0} strings={B:323120424230,A:32312042423030}\nstep 57: n=0 notes=0 split=- trials=0 in=0 out=0 state=running next=4 held=[] numbers={N:0,M:0,I:0,K9:0} strings={B:323120424230,A:32312042423030}\nstep 58: n=0 notes=0 split=- trials=0 in=0 out=0 state=running next=5 held=[] numbers={N:0,M:0,I:0,K9:0} strings={B:323120424230,A:32312042423030}\nstep 59: n=0 notes=0 split=- trials=0 in=0 out=0 state=running next=6 held=[] numbers={N:0,M:0,I:0,K9:0} strings={B:323120424230,A:32312042423030}\nstep 60: n=0 notes=0 split=- trials=0 in=0 out=0 state=running next=3 held=[] numbers={N:0,M:0,I:0,K9:0} strings={B:323120424230,A:32312042423030}\n" ≡ true
unfolding agrees
v191 = refl

v192 : agrees "         PROGRAM P\n         NUMBE  R N\n         C=\",\",C$3,\"+0\"\n         N=NUMBER(S1$1)\nL1       REA  D(60) A/X9,L2 \nX9       LINE  $4= A,  B,\"2\",S T RING(N)                                SEQ93407\n        1BACKSCAN LINE[(A)\n        C,B,(C),\"A\",\"A\",LI\n         NE,LINE$0]=S1                                                  SEQ71327\nL3       LI N  E=B,S  TRIN  G(7,N  )  , S1  \nL2       N=-((+  2) -05+NUMBER( C)*  10 )\nLOOP     IF(002=  9)/DO  N  E\nDONE     GO TO DONE\n         IF(LENGTH(S1)>=LENGTH(A))/,L3\n         B=\"BA2\"                                                        SEQ29544\n         N=N\n         READ C\n        1READ C/L\n         1\n         END                                                            SEQ25029\n" "1\n" "step 1: n=0 notes=0 split=- trials=0 in=0 out=0 state=running next=4 held=[] numbers={N:0} strings={C:2c2b30,S1:,A:,LINE:,B:}\nstep 2: n=0 notes=1 split=- trials=0 in=0 out=0 state=running next=5 held=[] numbers={N:0} strings={C:2c2b30,S1:,A:,LINE:,B:}\nstep 3: n=0 notes=0 split=- trials=0 in=2 out=0 state=running next=6 held=[] numbers={N:0} strings={C:2c2b30,S1:,A:31,LINE:,B:}\nstep 4: n=0 notes=0 split=- trials=0 in=2 out=0 state=running next=7 held=[] numbers={N:0} strings={C:2c2b30,S1:,A:31,LINE:313230,B:}\nstep 5: n=0 notes=0 split=- trials=5 in=2 out=0 state=running next=10 held=[] numbers={N:0} strings={C:,S1:,A:,LINE:313230,B:}\nstep 6: n=0 notes=0 split=- trials=0 in=2 out=0 state=running next=11 held=[] numbers={N:0} strings={C:,S1:,A:,LINE:30303030303030,B:}\nstep 7: n=0 notes=1 split=- trials=0 in=2 out=0 state=running next=12 held=[] numbers={N:3} strings={C:,S1:,A:,LINE:30303030303030,B:}\nstep 8: n=0 notes=0 split=- trials=0 in=2 out=0 state=running next=13 held=[] numbers={N:3} strings={C:,S1:,A:,LINE:30303030303030,B:}\nstep 9: n=0 notes=0 split=- trials=0 in=2 out=0 state=running next=13 held=[] numbers={N:3} strings={C:,S1:,A:,LINE:30303030303030,B:}\nstep 10: n=0 notes=0 split=- trials=0 in=2 out=0 state=running next=13 held=[] numbers={N:3} strings={C:,S1:,A:,LINE:30303030303030,B:}\nstep 11: n=0 notes=0 split=- trials=0 in=2 out=0 state=running next=13 held=[] numbers={N:3} strings={C:,S1:,A:,LINE:30303030303030,B:}\nstep 12: n=0 notes=0 split=- trials=0 in=2 out=0 state=running next=13 held=[] numbers={N:3} strings={C:,S1:,A:,LINE:30303030303030,B:}\nstep 13: n=0 notes=0 split=- trials=0 in=2 out=0 state=running next=13 held=[] numbers={N:3} strings={C:,S1:,A:,LINE:30303030303030,B:}\nstep 14: n=0 notes=0 split=- trials=0 in=2 out=0 state=running next=13 held=[] numbers={N:3} strings={C:,S1:,A:,LINE:30303030303030,B:}\nstep 15: n=0 notes=0 split=- trials=0 in=2 out=0 state=running next=13 held=[] numbers={N:3} strings={C:,S1:,A:,LINE:30303030303030,B:}\nstep 16: n=0 notes=0 split=- trials=0 in=2 out=0 state=running next=13 held=[] numbers={N:3} strings={C:,S1:,A:,LINE:30303030303030,B:}\nstep 17: n=0 notes=0 split=- trials=0 in=2 out=0 state=running next=13 held=[] numbers={N:3} strings={C:,S1:,A:,LINE:30303030303030,B:}\nstep 18: n=0 notes=0 split=- trials=0 in=2 out=0 state=running next=13 held=[] numbers={N:3} strings={C:,S1:,A:,LINE:30303030303030,B:}\nstep 19: n=0 notes=0 split=- trials=0 in=2 out=0 state=running next=13 held=[] numbers={N:3} strings={C:,S1:,A:,LINE:30303030303030,B:}\nstep 20: n=0 notes=0 split=- trials=0 in=2 out=0 state=running next=13 held=[] numbers={N:3} strings={C:,S1:,A:,LINE:30303030303030,B:}\nstep 21: n=0 notes=0 split=- trials=0 in=2 out=0 state=running next=13 held=[] numbers={N:3} strings={C:,S1:,A:,LINE:30303030303030,B:}\nstep 22: n=0 notes=0 split=- trials=0 in=2 out=0 state=running next=13 held=[] numbers={N:3} strings={C:,S1:,A:,LINE:30303030303030,B:}\nstep 23: n=0 notes=0 split=- trials=0 in=2 out=0 state=running next=13 held=[] numbers={N:3} strings={C:,S1:,A:,LINE:30303030303030,B:}\nstep 24: n=0 notes=0 split=- trials=0 in=2 out=0 state=running next=13 held=[] numbers={N:3} strings={C:,S1:,A:,LINE:30303030303030,B:}\nstep 25: n=0 notes=0 split=- trials=0 in=2 out=0 state=running next=13 held=[] numbers={N:3} strings={C:,S1:,A:,LINE:30303030303030,B:}\nstep 26: n=0 notes=0 split=- trials=0 in=2 out=0 state=running next=13 held=[] numbers={N:3} strings={C:,S1:,A:,LINE:30303030303030,B:}\nstep 27: n=0 notes=0 split=- trials=0 in=2 out=0 state=running next=13 held=[] numbers={N:3} strings={C:,S1:,A:,LINE:30303030303030,B:}\nstep 28: n=0 notes=0 split=- trials=0 in=2 out=0 state=running next=13 held=[] numbers={N:3} strings={C:,S1:,A:,LINE:30303030303030,B:}\nstep 29: n=0 notes=0 split=- trials=0 in=2 out=0 state=running next=13 held=[] numbers={N:3} strings={C:,S1:,A:,LINE:30303030303030,B:}\nstep 30: n=0 notes=0 split=- trials=0 in=2 out=0 state=running next=13 held=[] numbers={N:3} strings={C:,S1:,A:,LINE:30303030303030,B:}\nstep 31: n=0 notes=0 split=- trials=0 in=2 out=0 state=running next=13 held=[] numbers={N:3} strings={C:,S1:,A:,LINE:30303030303030,B:}\nstep 32: n=0 notes=0 split=- trials=0 in=2 out=0 state=running next=13 held=[] numbers={N:3} strings={C:,S1:,A:,LINE:30303030303030,B:}\nstep 33: n=0 notes=0 split=- trials=0 in=2 out=0 state=running next=13 held=[] numbers={N:3} strings={C:,S1:,A:,LINE:30303030303030,B:}\nstep 34: n=0 notes=0 split=- trials=0 in=2 out=0 state=running next=13 held=[] numbers={N:3} strings={C:,S1:,A:,LINE:30303030303030,B:}\nstep 35: n=0 notes=0 split=- trials=0 in=2 out=0 state=running next=13 held=[] numbers={N:3} strings={C:,S1:,A:,LINE:30303030303030,B:}\nstep 36: n=0 notes=0 split=- trials=0 in=2 out=0 state=running next=13 held=[] numbers={N:3} strings={C:,S1:,A:,LINE:30303030303030,B:}\nstep 37: n=0 notes=0 split=- trials=0 in=2 out=0 state=running next=13 held=[] numbers={N:3} strings={C:,S1:,A:,LINE:30303030303030,B:}\nstep 38: n=0 notes=0 split=- trials=0 in=2 out=0 state=running next=13 held=[] numbers={N:3} strings={C:,S1:,A:,LINE:30303030303030,B:}\nstep 39: n=0 notes=0 split=- trials=0 in=2 out=0 state=running next=13 held=[] numbers={N:3} strings={C:,S1:,A:,LINE:30303030303030,B:}\nstep 40: n=0 notes=0 split=- trials=0 in=2 out=0 state=running next=13 held=[] numbers={N:3} strings={C:,S1:,A:,LINE:30303030303030,B:}\nstep 41: n=0 notes=0 split=- trials=0 in=2 out=0 state=running next=13 held=[] numbers={N:3} strings={C:,S1:,A:,LINE:30303030303030,B:}\nstep 42: n=0 notes=0 split=- trials=0 in=2 out=0 state=running next=13 held=[] numbers={N:3} strings={C:,S1:,A:,LINE:30303030303030,B:}\nstep 43: n=0 notes=0 split=- trials=0 in=2 out=0 state=running next=13 held=[] numbers={N:3} strings={C:,S1:,A:,LINE:30303030303030,B:}\nstep 44: n=0 notes=0 split=- trials=0 in=2 out=0 state=running next=13 held=[] numbers={N:3} strings={C:,S1:,A:,LINE:30303030303030,B:}\nstep 45: n=0 notes=0 split=- trials=0 in=2 out=0 state=running next=13 held=[] numbers={N:3} strings={C:,S1:,A:,LINE:30303030303030,B:}\nstep 46: n=0 notes=0 split=- trials=0 in=2 out=0 state=running next=13 held=[] numbers={N:3} strings={C:,S1:,A:,LINE:30303030303030,B:}\nstep 47: n=0 notes=0 split=- trials=0 in=2 out=0 state=running next=13 held=[] numbers={N:3} strings={C:,S1:,A:,LINE:30303030303030,B:}\nstep 48: n=0 notes=0 split=- trials=0 in=2 out=0 state=running next=13 held=[] numbers={N:3} strings={C:,S1:,A:,LINE:30303030303030,B:}\nstep 49: n=0 notes=0 split=- trials=0 in=2 out=0 state=running next=13 held=[] numbers={N:3} strings={C:,S1:,A:,LINE:30303030303030,B:}\nstep 50: n=0 notes=0 split=- trials=0 in=2 out=0 state=running next=13 held=[] numbers={N:3} strings={C:,S1:,A:,LINE:30303030303030,B:}\nstep 51: n=0 notes=0 split=- trials=0 in=2 out=0 state=running next=13 held=[] numbers={N:3} strings={C:,S1:,A:,LINE:30303030303030,B:}\nstep 52: n=0 notes=0 split=- trials=0 in=2 out=0 state=running next=13 held=[] numbers={N:3} strings={C:,S1:,A:,LINE:30303030303030,B:}\nstep 53: n=0 notes=0 split=- trials=0 in=2 out=0 state=running next=13 held=[] numbers={N:3} strings={C:,S1:,A:,LINE:30303030303030,B:}\nstep 54: n=0 notes=0 split=- trials=0 in=2 out=0 state=running next=13 held=[] numbers={N:3} strings={C:,S1:,A:,LINE:30303030303030,B:}\nstep 55: n=0 notes=0 split=- trials=0 in=2 out=0 state=running next=13 held=[] numbers={N:3} strings={C:,S1:,A:,LINE:30303030303030,B:}\nstep 56: n=0 notes=0 split=- trials=0 in=2 out=0 state=running next=13 held=[] numbers={N:3} strings={C:,S1:,A:,LINE:30303030303030,B:}\nstep 57: n=0 notes=0 split=- trials=0 in=2 out=0 state=running next=13 held=[] numbers={N:3} strings={C:,S1:,A:,LINE:30303030303030,B:}\nstep 58: n=0 notes=0 split=- trials=0 in=2 out=0 state=running next=13 held=[] numbers={N:3} strings={C:,S1:,A:,LINE:30303030303030,B:}\nstep 59: n=0 notes=0 split=- trials=0 in=2 out=0 state=running next=13 held=[] numbers={N:3} strings={C:,S1:,A:,LINE:30303030303030,B:}\nstep 60: n=0 notes=0 split=- trials=0 in=2 out=0 state=running next=13 held=[] numbers={N:3} strings={C:,S1:,A:,LINE:30303030303030,B:}\n" ≡ true
unfolding agrees
v192 = refl

v193 : agrees "         PROGRAM LOTS\n         NUMBER NULL\n L2      READ C/,L2\n         LINE$3=F\n        *REA D   B$N\n        *U  LL/L2,L \n          2\n         EX EC  UTE R1\n         WR  ITE (61)  \n         GOTO L2\n         NULL=NULL*NULL*NULL\n         F=F$1,\"122\",\"3\"\n         ROUTIN E R2\n         READ(60) A\n         GO TO L1\n* COMMENT 9\nDONE     SCAN B[(A),  \"\"\",(C$NUL  L),(C),S1]  =B,\",,1 1AA,2212\"/,DO NE\nL1       ENDROUTINE\n         READ S1$5/,L2\n         I F(2>=5)/L2 ,L2\n         ROUTINE R1\nL3       LINE=A$NULL\n X9     1NULL=NULL/NULL+NULL*NULL+LENGTH(LINE)+NUMBER(GOTO)*LENGTH(A)*NU\n         LL\nLOOP     ENDROU TIN  E\n         END\n" "+A,B,AA+1, 0\nA, \n" "step 1: n=0 notes=0 split=- trials=0 in=13 out=0 state=running next=4 held=[] numbers={NULL:0} strings={C:2b412c422c41412b312c2030,LINE:,F:,B:,A:,S1:,GOTO:}\nstep 2: n=0 notes=0 split=- trials=0 in=13 out=0 state=running next=5 held=[] numbers={NULL:0} strings={C:2b412c422c41412b312c2030,LINE:,F:,B:,A:,S1:,GOTO:}\nstep 3: n=0 notes=0 split=- trials=0 in=13 out=0 state=running next=3 held=[] numbers={NULL:0} strings={C:2b412c422c41412b312c2030,LINE:,F:,B:,A:,S1:,GOTO:}\nstep 4: n=0 notes=0 split=- trials=0 in=17 out=0 state=running next=4 held=[] numbers={NULL:0} strings={C:412c20,LINE:,F:,B:,A:,S1:,GOTO:}\nstep 5: n=0 notes=0 split=- trials=0 in=17 out=0 state=running next=5 held=[] numbers={NULL:0} strings={C:412c20,LINE:,F:,B:,A:,S1:,GOTO:}\nstep 6: n=0 notes=0 split=- trials=0 in=17 out=0 state=running next=3 held=[] numbers={NULL:0} strings={C:412c20,LINE:,F:,B:,A:,S1:,GOTO:}\nstep 7: n=0 notes=0 split=- trials=0 in=17 out=0 state=running next=3 held=[] numbers={NULL:0} strings={C:412c20,LINE:,F:,B:,A:,S1:,GOTO:}\nstep 8: n=0 notes=0 split=- trials=0 in=17 out=0 state=running next=3 held=[] numbers={NULL:0} strings={C:412c20,LINE:,F:,B:,A:,S1:,GOTO:}\nstep 9: n=0 notes=0 split=- trials=0 in=17 out=0 state=running next=3 held=[] numbers={NULL:0} strings={C:412c20,LINE:,F:,B:,A:,S1:,GOTO:}\nstep 10: n=0 notes=0 split=- trials=0 in=17 out=0 state=running next=3 held=[] numbers={NULL:0} strings={C:412c20,LINE:,F:,B:,A:,S1:,GOTO:}\nstep 11: n=0 notes=0 split=- trials=0 in=17 out=0 state=running next=3 held=[] numbers={NULL:0} strings={C:412c20,LINE:,F:,B:,A:,S1:,GOTO:}\nstep 12: n=0 notes=0 split=- trials=0 in=17 out=0 state=running next=3 held=[] numbers={NULL:0} strings={C:412c20,LINE:,F:,B:,A:,S1:,GOTO:}\nstep 13: n=0 notes=0 split=- trials=0 in=17 out=0 state=running next=3 held=[] numbers={NULL:0} strings={C:412c20,LINE:,F:,B:,A:,S1:,GOTO:}\nstep 14: n=0 notes=0 split=- trials=0 in=17 out=0 state=running next=3 held=[] numbers={NULL:0} strings={C:412c20,LINE:,F:,B:,A:,S1:,GOTO:}\nstep 15: n=0 notes=0 split=- trials=0 in=17 out=0 state=running next=3 held=[] numbers={NULL:0} strings={C:412c20,LINE:,F:,B:,A:,S1:,GOTO:}\nstep 16: n=0 notes=0 split=- trials=0 in=17 out=0 state=running next=3 held=[] numbers={NULL:0} strings={C:412c20,LINE:,F:,B:,A:,S1:,GOTO:}\nstep 17: n=0 notes=0 split=- trials=0 in=17 out=0 state=running next=3 held=[] numbers={NULL:0} strings={C:412c20,LINE:,F:,B:,A:,S1:,GOTO:}\nstep 18: n=0 notes=0 split=- trials=0 in=17 out=0 state=running next=3 held=[] numbers={NULL:0} strings={C:412c20,LINE:,F:,B:,A:,S1:,GOTO:}\nstep 19: n=0 notes=0 split=- trials=0 in=17 out=0 state=running next=3 held=[] numbers={NULL:0} strings={C:412c20,LINE:,F:,B:,A:,S1:,GOTO:}\nstep 20: n=0 notes=0 split=- trials=0 in=17 out=0 state=running next=3 held=[] numbers={NULL:0} strings={C:412c20,LINE:,F:,B:,A:,S1:,GOTO:}\nstep 21: n=0 notes=0 split=- trials=0 in=17 out=0 state=running next=3 held=[] numbers={NULL:0} strings={C:412c20,LINE:,F:,B:,A:,S1:,GOTO:}\nstep 22: n=0 notes=0 split=- trials=0 in=17 out=0 state=running next=3 held=[] numbers={NULL:0} strings={C:412c20,LINE:,F:,B:,A:,S1:,GOTO:}\nstep 23: n=0 notes=0 split=- trials=0 in=17 out=0 state=running next=3 held=[] numbers={NULL:0} strings={C:412c20,LINE:,F:,B:,A:,S1:,GOTO:}\nstep 24: n=0 notes=0 split=- trials=0 in=17 out=0 state=running next=3 held=[] numbers={NULL:0} strings={C:412c20,LINE:,F:,B:,A:,S1:,GOTO:}\nstep 25: n=0 notes=0 split=- trials=0 in=17 out=0 state=running next=3 held=[] numbers={NULL:0} strings={C:412c20,LINE:,F:,B:,A:,S1:,GOTO:}\nstep 26: n=0 notes=0 split=- trials=0 in=17 out=0 state=running next=3 held=[] numbers={NULL:0} strings={C:412c20,LINE:,F:,B:,A:,S1:,GOTO:}\nstep 27: n=0 notes=0 split=- trials=0 in=17 out=0 state=running next=3 held=[] numbers={NULL:0} strings={C:412c20,LINE:,F:,B:,A:,S1:,GOTO:}\nstep 28: n=0 notes=0 split=- trials=0 in=17 out=0 state=running next=3 held=[] numbers={NULL:0} strings={C:412c20,LINE:,F:,B:,A:,S1:,GOTO:}\nstep 29: n=0 notes=0 split=- trials=0 in=17 out=0 state=running next=3 held=[] numbers={NULL:0} strings={C:412c20,LINE:,F:,B:,A:,S1:,GOTO:}\nstep 30: n=0 notes=0 split=- trials=0 in=17 out=0 state=running next=3 held=[] numbers={NULL:0} strings={C:412c20,LINE:,F:,B:,A:,S1:,GOTO:}\nstep 31: n=0 notes=0 split=- trials=0 in=17 out=0 state=running next=3 held=[] numbers={NULL:0} strings={C:412c20,LINE:,F:,B:,A:,S1:,GOTO:}\nstep 32: n=0 notes=0 split=- trials=0 in=17 out=0 state=running next=3 held=[] numbers={NULL:0} strings={C:412c20,LINE:,F:,B:,A:,S1:,GOTO:}\nstep 33: n=0 notes=0 split=- trials=0 in=17 out=0 state=running next=3 held=[] numbers={NULL:0} strings={C:412c20,LINE:,F:,B:,A:,S1:,GOTO:}\nstep 34: n=0 notes=0 split=- trials=0 in=17 out=0 state=running next=3 held=[] numbers={NULL:0} strings={C:412c20,LINE:,F:,B:,A:,S1:,GOTO:}\nstep 35: n=0 notes=0 split=- trials=0 in=17 out=0 state=running next=3 held=[] numbers={NULL:0} strings={C:412c20,LINE:,F:,B:,A:,S1:,GOTO:}\nstep 36: n=0 notes=0 split=- trials=0 in=17 out=0 state=running next=3 held=[] numbers={NULL:0} strings={C:412c20,LINE:,F:,B:,A:,S1:,GOTO:}\nstep 37: n=0 notes=0 split=- trials=0 in=17 out=0 state=running next=3 held=[] numbers={NULL:0} strings={C:412c20,LINE:,F:,B:,A:,S1:,GOTO:}\nstep 38: n=0 notes=0 split=- trials=0 in=17 out=0 state=running next=3 held=[] numbers={NULL:0} strings={C:412c20,LINE:,F:,B:,A:,S1:,GOTO:}\nstep 39: n=0 notes=0 split=- trials=0 in=17 out=0 state=running next=3 held=[] numbers={NULL:0} strings={C:412c20,LINE:,F:,B:,A:,S1:,GOTO:}\nstep 40: n=0 notes=0 split=- trials=0 in=17 out=0 state=running next=3 held=[] numbers={NULL:0} strings={C:412c20,LINE:,F:,B:,A:,S1:,GOTO:}\nstep 41: n=0 notes=0 split=- trials=0 in=17 out=0 state=running next=3 held=[] numbers={NULL:0} strings={C:412c20,LINE:,F:,B:,A:,S1:,GOTO:}\nstep 42: n=0 notes=0 split=- trials=0 in=17 out=0 state=running next=3 held=[] numbers={NULL:0} strings={C:412c20,LINE:,F:,B:,A:,S1:,GOTO:}\nstep 43: n=0 notes=0 split=- trials=0 in=17 out=0 state=running next=3 held=[] numbers={NULL:0} strings={C:412c20,LINE:,F:,B:,A:,S1:,GOTO:}\nstep 44: n=0 notes=0 split=- trials=0 in=17 out=0 state=running next=3 held=[] numbers={NULL:0} strings={C:412c20,LINE:,F:,B:,A:,S1:,GOTO:}\nstep 45: n=0 notes=0 split=- trials=0 in=17 out=0 state=running next=3 held=[] numbers={NULL:0} strings={C:412c20,LINE:,F:,B:,A:,S1:,GOTO:}\nstep 46: n=0 notes=0 split=- trials=0 in=17 out=0 state=running next=3 held=[] numbers={NULL:0} strings={C:412c20,LINE:,F:,B:,A:,S1:,GOTO:}\nstep 47: n=0 notes=0 split=- trials=0 in=17 out=0 state=running next=3 held=[] numbers={NULL:0} strings={C:412c20,LINE:,F:,B:,A:,S1:,GOTO:}\nstep 48: n=0 notes=0 split=- trials=0 in=17 out=0 state=running next=3 held=[] numbers={NULL:0} strings={C:412c20,LINE:,F:,B:,A:,S1:,GOTO:}\nstep 49: n=0 notes=0 split=- trials=0 in=17 out=0 state=running next=3 held=[] numbers={NULL:0} strings={C:412c20,LINE:,F:,B:,A:,S1:,GOTO:}\nstep 50: n=0 notes=0 split=- trials=0 in=17 out=0 state=running next=3 held=[] numbers={NULL:0} strings={C:412c20,LINE:,F:,B:,A:,S1:,GOTO:}\nstep 51: n=0 notes=0 split=- trials=0 in=17 out=0 state=running next=3 held=[] numbers={NULL:0} strings={C:412c20,LINE:,F:,B:,A:,S1:,GOTO:}\nstep 52: n=0 notes=0 split=- trials=0 in=17 out=0 state=running next=3 held=[] numbers={NULL:0} strings={C:412c20,LINE:,F:,B:,A:,S1:,GOTO:}\nstep 53: n=0 notes=0 split=- trials=0 in=17 out=0 state=running next=3 held=[] numbers={NULL:0} strings={C:412c20,LINE:,F:,B:,A:,S1:,GOTO:}\nstep 54: n=0 notes=0 split=- trials=0 in=17 out=0 state=running next=3 held=[] numbers={NULL:0} strings={C:412c20,LINE:,F:,B:,A:,S1:,GOTO:}\nstep 55: n=0 notes=0 split=- trials=0 in=17 out=0 state=running next=3 held=[] numbers={NULL:0} strings={C:412c20,LINE:,F:,B:,A:,S1:,GOTO:}\nstep 56: n=0 notes=0 split=- trials=0 in=17 out=0 state=running next=3 held=[] numbers={NULL:0} strings={C:412c20,LINE:,F:,B:,A:,S1:,GOTO:}\nstep 57: n=0 notes=0 split=- trials=0 in=17 out=0 state=running next=3 held=[] numbers={NULL:0} strings={C:412c20,LINE:,F:,B:,A:,S1:,GOTO:}\nstep 58: n=0 notes=0 split=- trials=0 in=17 out=0 state=running next=3 held=[] numbers={NULL:0} strings={C:412c20,LINE:,F:,B:,A:,S1:,GOTO:}\nstep 59: n=0 notes=0 split=- trials=0 in=17 out=0 state=running next=3 held=[] numbers={NULL:0} strings={C:412c20,LINE:,F:,B:,A:,S1:,GOTO:}\nstep 60: n=0 notes=0 split=- trials=0 in=17 out=0 state=running next=3 held=[] numbers={NULL:0} strings={C:412c20,LINE:,F:,B:,A:,S1:,GOTO:}\n" ≡ true
unfolding agrees
v193 = refl

v194 : agrees "         PROGRA M TES T1\n         NUMBER N                                                       SEQ45027\nX9       C=G,C,\"\"\"\nLOOP     S 1= \" )\",B,A,\"A 1\"\nL1       N=+((NUMBER(B)))+N+N\n DONE    B=\"B  A,BABB A1\"\nL2       N=69385  24\nL3       END\n" "B+B01A\n,\n" "step 1: n=0 notes=0 split=- trials=0 in=0 out=0 state=running next=4 held=[] numbers={N:0} strings={C:22,G:,S1:,B:,A:}\nstep 2: n=0 notes=0 split=- trials=0 in=0 out=0 state=running next=5 held=[] numbers={N:0} strings={C:22,G:,S1:2029412031,B:,A:}\nstep 3: n=0 notes=1 split=- trials=0 in=0 out=0 state=running next=6 held=[] numbers={N:0} strings={C:22,G:,S1:2029412031,B:,A:}\nstep 4: n=0 notes=0 split=- trials=0 in=0 out=0 state=running next=7 held=[] numbers={N:0} strings={C:22,G:,S1:2029412031,B:422020412c42414242204131,A:}\nstep 5: n=0 notes=0 split=- trials=0 in=0 out=0 state=running next=8 held=[] numbers={N:6938524} strings={C:22,G:,S1:2029412031,B:422020412c42414242204131,A:}\nstep 6: n=0 notes=0 split=- trials=0 in=0 out=0 state=finished next=8 held=[] numbers={N:6938524} strings={C:22,G:,S1:2029412031,B:422020412c42414242204131,A:}\n" ≡ true
unfolding agrees
v194 = refl

v195 : agrees "         PROGRAM P\n         NUMBER N\n* COMMENT 9\nL1      +N=+N*N-N+(6/N/NUMBER(C)-LENGTH(B)*N)+NUMBER(A$N)+LENGTH(C)-N/(L\n         ENGTH(A))-N+N/N\n         WRITE C,C\n         WR  ITE   A$4,C$01 ,\"A21,2\"\n   \n         SCAN B[\"B\",\"A\",(A)]=B,\"01/0=0/,)222\",B$2,\"B\"                   SEQ00465\n* COMMENT 2\n         READ B\n   \nX9       A=STR  I NG(9,  N) \n         SCAN C[(B),\"A/ ( \",(A),(B),(B)]/L2\n LOOP    BA CKS CAN C$07 [\"\"\",C  ,(B ),\"2\",STRING(N),(A),(B)]\n DONE    SCAN C$1[A,A,C$N]=\n         WRITE C\nL2       A=B,STRING(0,N),STRING(0,N),\"1\"\nL3      CC=\"A,\n         \",B\n         END\n" "A--1- BA-1+B\nAAB0-B011AAA\n+ AAA1\n2\n0\n+ 0A-202A+A 00  -AA1,A0 1+B -,+AB A1,A1+\nBAB   \n\n" "step 1: n=18 notes=0 split=- trials=0 in=0 out=0 state=stopped next=4 held=[] numbers={N:0} strings={C:,B:,A:}\n" ≡ true
unfolding agrees
v195 = refl

v196 : agrees "         PROGRAM P\n         NUMBER N,M,I,K9\n L3      IF(NU MERIC(  A  ) )/LOOP,L1                                   SEQ91783\n         RO  UTINE R  1\nDONE     A=\"/=\",A$N\nL2       READ B/X9\nX9       ENDROUTINE\n         E  XECUT  E  R1\nLOOP     READ B\n         IF(M>=NUMBER(A$M))/L1\n         A$1=B,B$6\n* COMMENT 3\n         B$M=\"B\"\nL1       END" "A,,B, -A2 2B\n" "step 1: n=0 notes=0 split=- trials=0 in=0 out=0 state=running next=14 held=[] numbers={N:0,M:0,I:0,K9:0} strings={A:,B:}\nstep 2: n=0 notes=0 split=- trials=0 in=0 out=0 state=finished next=14 held=[] numbers={N:0,M:0,I:0,K9:0} strings={A:,B:}\n" ≡ true
unfolding agrees
v196 = refl

v197 : agrees "         PRO  GRAM   LOTS\n         N  UM  BER N                                                   SEQ93592\n         ROUT  I  NE R1\nDONE     ENDROUTINE\nL1       IF(-9>N)/L1,L1\n         IF(NUMERIC(C))/L1,L1\n         READ A$3/,L1\n        CROUTINE                                                        SEQ51568\n         R2\n         I F(N<>+2)/,L3                                                 SEQ21423\n* COMMENT 3\nL3       ENDROUTINE\n L2      ROUTINE R3\n X9      C$N=STRING(N),\"1\",\"22,A1,A2A2BA\",\"+=1)-)A$))+(\"\n         RETURN  \nLOOP     BACKS  CAN C  [\"2B\",\"2B,,1\"]=B$N,C$0,C  $2/  X  9\n        +N=297\n        *5*N+N\n        CUMBER\n         (B)\n         ENDROUTINE\n         END" "0\n" "step 1: n=0 notes=0 split=- trials=0 in=0 out=0 state=running next=5 held=[] numbers={N:0} strings={C:,A:,B:}\nstep 2: n=0 notes=0 split=- trials=0 in=0 out=0 state=running next=5 held=[] numbers={N:0} strings={C:,A:,B:}\nstep 3: n=0 notes=0 split=- trials=0 in=0 out=0 state=running next=5 held=[] numbers={N:0} strings={C:,A:,B:}\nstep 4: n=0 notes=0 split=- trials=0 in=0 out=0 state=running next=5 held=[] numbers={N:0} strings={C:,A:,B:}\nstep 5: n=0 notes=0 split=- trials=0 in=0 out=0 state=running next=5 held=[] numbers={N:0} strings={C:,A:,B:}\nstep 6: n=0 notes=0 split=- trials=0 in=0 out=0 state=running next=5 held=[] numbers={N:0} strings={C:,A:,B:}\nstep 7: n=0 notes=0 split=- trials=0 in=0 out=0 state=running next=5 held=[] numbers={N:0} strings={C:,A:,B:}\nstep 8: n=0 notes=0 split=- trials=0 in=0 out=0 state=running next=5 held=[] numbers={N:0} strings={C:,A:,B:}\nstep 9: n=0 notes=0 split=- trials=0 in=0 out=0 state=running next=5 held=[] numbers={N:0} strings={C:,A:,B:}\nstep 10: n=0 notes=0 split=- trials=0 in=0 out=0 state=running next=5 held=[] numbers={N:0} strings={C:,A:,B:}\nstep 11: n=0 notes=0 split=- trials=0 in=0 out=0 state=running next=5 held=[] numbers={N:0} strings={C:,A:,B:}\nstep 12: n=0 notes=0 split=- trials=0 in=0 out=0 state=running next=5 held=[] numbers={N:0} strings={C:,A:,B:}\nstep 13: n=0 notes=0 split=- trials=0 in=0 out=0 state=running next=5 held=[] numbers={N:0} strings={C:,A:,B:}\nstep 14: n=0 notes=0 split=- trials=0 in=0 out=0 state=running next=5 held=[] numbers={N:0} strings={C:,A:,B:}\nstep 15: n=0 notes=0 split=- trials=0 in=0 out=0 state=running next=5 held=[] numbers={N:0} strings={C:,A:,B:}\nstep 16: n=0 notes=0 split=- trials=0 in=0 out=0 state=running next=5 held=[] numbers={N:0} strings={C:,A:,B:}\nstep 17: n=0 notes=0 split=- trials=0 in=0 out=0 state=running next=5 held=[] numbers={N:0} strings={C:,A:,B:}\nstep 18: n=0 notes=0 split=- trials=0 in=0 out=0 state=running next=5 held=[] numbers={N:0} strings={C:,A:,B:}\nstep 19: n=0 notes=0 split=- trials=0 in=0 out=0 state=running next=5 held=[] numbers={N:0} strings={C:,A:,B:}\nstep 20: n=0 notes=0 split=- trials=0 in=0 out=0 state=running next=5 held=[] numbers={N:0} strings={C:,A:,B:}\nstep 21: n=0 notes=0 split=- trials=0 in=0 out=0 state=running next=5 held=[] numbers={N:0} strings={C:,A:,B:}\nstep 22: n=0 notes=0 split=- trials=0 in=0 out=0 state=running next=5 held=[] numbers={N:0} strings={C:,A:,B:}\nstep 23: n=0 notes=0 split=- trials=0 in=0 out=0 state=running next=5 held=[] numbers={N:0} strings={C:,A:,B:}\nstep 24: n=0 notes=0 split=- trials=0 in=0 out=0 state=running next=5 held=[] numbers={N:0} strings={C:,A:,B:}\nstep 25: n=0 notes=0 split=- trials=0 in=0 out=0 state=running next=5 held=[] numbers={N:0} strings={C:,A:,B:}\nstep 26: n=0 notes=0 split=- trials=0 in=0 out=0 state=running next=5 held=[] numbers={N:0} strings={C:,A:,B:}\nstep 27: n=0 notes=0 split=- trials=0 in=0 out=0 state=running next=5 held=[] numbers={N:0} strings={C:,A:,B:}\nstep 28: n=0 notes=0 split=- trials=0 in=0 out=0 state=running next=5 held=[] numbers={N:0} strings={C:,A:,B:}\nstep 29: n=0 notes=0 split=- trials=0 in=0 out=0 state=running next=5 held=[] numbers={N:0} strings={C:,A:,B:}\nstep 30: n=0 notes=0 split=- trials=0 in=0 out=0 state=running next=5 held=[] numbers={N:0} strings={C:,A:,B:}\nstep 31: n=0 notes=0 split=- trials=0 in=0 out=0 state=running next=5 held=[] numbers={N:0} strings={C:,A:,B:}\nstep 32: n=0 notes=0 split=- trials=0 in=0 out=0 state=running next=5 held=[] numbers={N:0} strings={C:,A:,B:}\nstep 33: n=0 notes=0 split=- trials=0 in=0 out=0 state=running next=5 held=[] numbers={N:0} strings={C:,A:,B:}\nstep 34: n=0 notes=0 split=- trials=0 in=0 out=0 state=running next=5 held=[] numbers={N:0} strings={C:,A:,B:}\nstep 35: n=0 notes=0 split=- trials=0 in=0 out=0 state=running next=5 held=[] numbers={N:0} strings={C:,A:,B:}\nstep 36: n=0 notes=0 split=- trials=0 in=0 out=0 state=running next=5 held=[] numbers={N:0} strings={C:,A:,B:}\nstep 37: n=0 notes=0 split=- trials=0 in=0 out=0 state=running next=5 held=[] numbers={N:0} strings={C:,A:,B:}\nstep 38: n=0 notes=0 split=- trials=0 in=0 out=0 state=running next=5 held=[] numbers={N:0} strings={C:,A:,B:}\nstep 39: n=0 notes=0 split=- trials=0 in=0 out=0 state=running next=5 held=[] numbers={N:0} strings={C:,A:,B:}\nstep 40: n=0 notes=0 split=- trials=0 in=0 out=0 state=running next=5 held=[] numbers={N:0} strings={C:,A:,B:}\nstep 41: n=0 notes=0 split=- trials=0 in=0 out=0 state=running next=5 held=[] numbers={N:0} strings={C:,A:,B:}\nstep 42: n=0 notes=0 split=- trials=0 in=0 out=0 state=running next=5 held=[] numbers={N:0} strings={C:,A:,B:}\nstep 43: n=0 notes=0 split=- trials=0 in=0 out=0 state=running next=5 held=[] numbers={N:0} strings={C:,A:,B:}\nstep 44: n=0 notes=0 split=- trials=0 in=0 out=0 state=running next=5 held=[] numbers={N:0} strings={C:,A:,B:}\nstep 45: n=0 notes=0 split=- trials=0 in=0 out=0 state=running next=5 held=[] numbers={N:0} strings={C:,A:,B:}\nstep 46: n=0 notes=0 split=- trials=0 in=0 out=0 state=running next=5 held=[] numbers={N:0} strings={C:,A:,B:}\nstep 47: n=0 notes=0 split=- trials=0 in=0 out=0 state=running next=5 held=[] numbers={N:0} strings={C:,A:,B:}\nstep 48: n=0 notes=0 split=- trials=0 in=0 out=0 state=running next=5 held=[] numbers={N:0} strings={C:,A:,B:}\nstep 49: n=0 notes=0 split=- trials=0 in=0 out=0 state=running next=5 held=[] numbers={N:0} strings={C:,A:,B:}\nstep 50: n=0 notes=0 split=- trials=0 in=0 out=0 state=running next=5 held=[] numbers={N:0} strings={C:,A:,B:}\nstep 51: n=0 notes=0 split=- trials=0 in=0 out=0 state=running next=5 held=[] numbers={N:0} strings={C:,A:,B:}\nstep 52: n=0 notes=0 split=- trials=0 in=0 out=0 state=running next=5 held=[] numbers={N:0} strings={C:,A:,B:}\nstep 53: n=0 notes=0 split=- trials=0 in=0 out=0 state=running next=5 held=[] numbers={N:0} strings={C:,A:,B:}\nstep 54: n=0 notes=0 split=- trials=0 in=0 out=0 state=running next=5 held=[] numbers={N:0} strings={C:,A:,B:}\nstep 55: n=0 notes=0 split=- trials=0 in=0 out=0 state=running next=5 held=[] numbers={N:0} strings={C:,A:,B:}\nstep 56: n=0 notes=0 split=- trials=0 in=0 out=0 state=running next=5 held=[] numbers={N:0} strings={C:,A:,B:}\nstep 57: n=0 notes=0 split=- trials=0 in=0 out=0 state=running next=5 held=[] numbers={N:0} strings={C:,A:,B:}\nstep 58: n=0 notes=0 split=- trials=0 in=0 out=0 state=running next=5 held=[] numbers={N:0} strings={C:,A:,B:}\nstep 59: n=0 notes=0 split=- trials=0 in=0 out=0 state=running next=5 held=[] numbers={N:0} strings={C:,A:,B:}\nstep 60: n=0 notes=0 split=- trials=0 in=0 out=0 state=running next=5 held=[] numbers={N:0} strings={C:,A:,B:}\n" ≡ true
unfolding agrees
v197 = refl

v198 : agrees "         PR O  GRA M P\n         NUMBER N,M,I,K9,COUNT                                          SEQ11465\n X9      ROUTINE R2\n        XS1=S1$M,STRING(I),B$\n         0,STRING(COUNT)\n         READ B/L2\n L2      SCAN B$I[\"\"\"]\n         S1=C\n         E NDROU  TI  NE  \nL3       ROUTINE R1\nLOOP     S1=C$M,S1 \n        XBACKS  CA\n        +N  C[(A$3\n        1),(A )  ,\n        1  S  TRI \n        CNG(N ), (\n IGNORED*A)]=B, B,\n         \"0,\",\"A1\"\n        CSCAN C[(S1),( S1)  ,STRIN G( 0,M),(A) , (A ),(A$2) , (S1$K9 )]/\n         ,LOOP\n         IF  (1<>  +2)  /LOO P  \n         ENDROUTINE\nL1      XSC  A  N  A  [(B$I),(S1$  2),(  B$1),A, (  S1),  (B$  3),A] =A \n         /X9,DO N  E\n DONE    END  \n" "BBAA+0\n" "step 1: n=0 notes=0 split=- trials=0 in=0 out=0 state=running next=10 held=[] numbers={N:0,M:0,I:0,K9:0,COUNT:0} strings={S1:,B:,C:,A:}\nstep 2: n=0 notes=0 split=- trials=0 in=0 out=0 state=running next=23 held=[] numbers={N:0,M:0,I:0,K9:0,COUNT:0} strings={S1:,B:,C:,A:}\nstep 3: n=0 notes=0 split=- trials=2 in=0 out=0 state=running next=25 held=[] numbers={N:0,M:0,I:0,K9:0,COUNT:0} strings={S1:,B:,C:,A:}\nstep 4: n=0 notes=0 split=- trials=0 in=0 out=0 state=finished next=25 held=[] numbers={N:0,M:0,I:0,K9:0,COUNT:0} strings={S1:,B:,C:,A:}\n" ≡ true
unfolding agrees
v198 = refl

v199 : agrees "         PROGRAM LOTS\n         NUMBER  N  ,M,I,  K9,  COUNT\nLOOP    CI=K9/(-K9\n         )\nL3       ROU  TI NE R1\n         A=  B$2,B\nX9       IF(NULL(B))/X9,X9\n         SCAN B[(A)]=\n         SCAN   A[(B  ),(B),A$  6]=B,A\n         ENDROUTINE\nL2       PRINT STRING(0,COUNT),\",A2A2\"\nL1       B$6=A\nDONE     END\n" "1\n" "step 1: n=18 notes=0 split=- trials=0 in=0 out=0 state=stopped next=3 held=[] numbers={N:0,M:0,I:0,K9:0,COUNT:0} strings={A:,B:}\n" ≡ true
unfolding agrees
v199 = refl
