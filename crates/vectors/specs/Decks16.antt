-- Decks with their inputs and traces. Assumes nothing.
use Rattle.std.specs.Prelude.{true, ◌≡◌, refl}
use Rattle.vectors.specs.Trace.{agrees, agrees_whole}

v109 : agrees "         PROGRAM LOTS\n         NU MBER R E  TURN,M,  I,  K9, COUN T\n         I=NUMBE  R(WRITE)\n         GO TO LOOP\n         IF(NUMERIC(B))/,L2\n         WRITE=\",2,*+\"\nL2       IF(NUMERIC(WRITE))/,X9\n         ROUTINE R1\nDONE     B=WRITE, W  R ITE\n L3      C=C\nL1       ENDROUTINE\n         EXIT\n         READ(  60) W RITE  /L2  \n X9      READ(60) WRITE\n         I  =7\n         I  F(RETURN<=K9)/,  X9\n         C=B$6\nLOOP     COUNT=I\n         END                                                            SEQ03655\n" "+\n --\n22-, B-,AA, AA++0+1+BA B,A0122+A002AA2 ,\n A+ABBAA-AB-\n,B1+AA0A +-2 A+1++A --,A1, AB -20A+-B -1\n\n\nB,+A B\n" "step 1: n=0 notes=1 split=- trials=0 in=0 out=0 state=running next=4 held=[] numbers={RETURN:0,M:0,I:0,K9:0,COUNT:0} strings={WRITE:,B:,C:}\nstep 2: n=0 notes=0 split=- trials=0 in=0 out=0 state=running next=18 held=[] numbers={RETURN:0,M:0,I:0,K9:0,COUNT:0} strings={WRITE:,B:,C:}\nstep 3: n=0 notes=0 split=- trials=0 in=0 out=0 state=running next=19 held=[] numbers={RETURN:0,M:0,I:0,K9:0,COUNT:0} strings={WRITE:,B:,C:}\nstep 4: n=0 notes=0 split=- trials=0 in=0 out=0 state=finished next=19 held=[] numbers={RETURN:0,M:0,I:0,K9:0,COUNT:0} strings={WRITE:,B:,C:}\n" ≡ true
unfolding agrees
v109 = refl

v110 : agrees "         PR OGRAM P\n         NUMBER N,M,I,K9\n LOOP    PRINT A$N,S1$1\nDONE     WRITE \"11\"\nL1       ROUTINE R1\nL2       END  ROUTINE \n X9      A$N=B$5\nL3       END\n" "A,A,200+1, +\n0\n212\n0 A\n" "step 1: n=0 notes=0 split=- trials=0 in=0 out=0 state=running next=4 held=[] numbers={N:0,M:0,I:0,K9:0} strings={A:,S1:,B:}\nstep 2: n=0 notes=0 split=- trials=0 in=0 out=3 state=running next=5 held=[] numbers={N:0,M:0,I:0,K9:0} strings={A:,S1:,B:}\nstep 3: n=0 notes=0 split=- trials=0 in=0 out=3 state=running next=7 held=[] numbers={N:0,M:0,I:0,K9:0} strings={A:,S1:,B:}\nstep 4: n=0 notes=0 split=- trials=0 in=0 out=3 state=running next=8 held=[] numbers={N:0,M:0,I:0,K9:0} strings={A:,S1:,B:}\nstep 5: n=0 notes=0 split=- trials=0 in=0 out=3 state=finished next=8 held=[] numbers={N:0,M:0,I:0,K9:0} strings={A:,S1:,B:}\n" ≡ true
unfolding agrees
v110 = refl

v111 : agrees "         PROGRAM LOTS\n         NUMBE R N,M ,  I  \n DONE    B=\nLOOP     A=C\nL2       A  =A\nX9       S1=\",\",C,\",A,112A2 2A,\"\nL1       PRINT S1$0,\",A\"                                                SEQ87232\nL3       END\n" "" "step 1: n=0 notes=0 split=- trials=0 in=0 out=0 state=running next=4 held=[] numbers={N:0,M:0,I:0} strings={B:,A:,C:,S1:}\nstep 2: n=0 notes=0 split=- trials=0 in=0 out=0 state=running next=5 held=[] numbers={N:0,M:0,I:0} strings={B:,A:,C:,S1:}\nstep 3: n=0 notes=0 split=- trials=0 in=0 out=0 state=running next=6 held=[] numbers={N:0,M:0,I:0} strings={B:,A:,C:,S1:}\nstep 4: n=0 notes=0 split=- trials=0 in=0 out=0 state=running next=7 held=[] numbers={N:0,M:0,I:0} strings={B:,A:,C:,S1:2c2c412c31313241322032412c}\nstep 5: n=0 notes=0 split=- trials=0 in=0 out=3 state=running next=8 held=[] numbers={N:0,M:0,I:0} strings={B:,A:,C:,S1:2c2c412c31313241322032412c}\nstep 6: n=0 notes=0 split=- trials=0 in=0 out=3 state=finished next=8 held=[] numbers={N:0,M:0,I:0} strings={B:,A:,C:,S1:2c2c412c31313241322032412c}\n" ≡ true
unfolding agrees
v111 = refl

v112 : agrees "         PROGRAM TEST1\n         NUMBER N,M,I,K9,COUNT\n         SCAN B[B,B$C  OUNT  ]=A /L 3\nL3       IF(NUMERIC(B))/L3\n         ROUTINE R2\n         IF(  NULL( A))/X9\nL2       N  =167\n         A=STRIN  G(C OUNT,N),\"0(3\"                                     SEQ95399\nX9       SCAN B[]=\",\"/L2,L2\nDONE     ENDROUTINE\n         ROUTINE R1\n         PRINT STRING(3,I),B,B$COUNT\nL1       BACKSCAN B[(A$2),(A)]=\"A\"/LOOP\nLOOP     ENDROUTINE                                                     SEQ87735\n* COMMENT 2\n         IF (  NUL L(A) )/L 3\n         GO TO L3 \n         BACKSCAN B[(A$3),(A),\" \",(A),(A)]=\"2\"/,L3\n         READ A\n         IF(NUMBER(B$K9)<>I)/L3\n         END\n" ",\n" "step 1: n=0 notes=0 split=0;0,0 trials=2 in=0 out=0 state=running next=4 held=[] numbers={N:0,M:0,I:0,K9:0,COUNT:0} strings={B:,A:}\nstep 2: n=0 notes=0 split=- trials=0 in=0 out=0 state=running next=5 held=[] numbers={N:0,M:0,I:0,K9:0,COUNT:0} strings={B:,A:}\nstep 3: n=0 notes=0 split=- trials=0 in=0 out=0 state=running next=11 held=[] numbers={N:0,M:0,I:0,K9:0,COUNT:0} strings={B:,A:}\nstep 4: n=0 notes=0 split=- trials=0 in=0 out=0 state=running next=16 held=[] numbers={N:0,M:0,I:0,K9:0,COUNT:0} strings={B:,A:}\nstep 5: n=0 notes=0 split=- trials=0 in=0 out=0 state=running next=4 held=[] numbers={N:0,M:0,I:0,K9:0,COUNT:0} strings={B:,A:}\nstep 6: n=0 notes=0 split=- trials=0 in=0 out=0 state=running next=5 held=[] numbers={N:0,M:0,I:0,K9:0,COUNT:0} strings={B:,A:}\nstep 7: n=0 notes=0 split=- trials=0 in=0 out=0 state=running next=11 held=[] numbers={N:0,M:0,I:0,K9:0,COUNT:0} strings={B:,A:}\nstep 8: n=0 notes=0 split=- trials=0 in=0 out=0 state=running next=16 held=[] numbers={N:0,M:0,I:0,K9:0,COUNT:0} strings={B:,A:}\nstep 9: n=0 notes=0 split=- trials=0 in=0 out=0 state=running next=4 held=[] numbers={N:0,M:0,I:0,K9:0,COUNT:0} strings={B:,A:}\nstep 10: n=0 notes=0 split=- trials=0 in=0 out=0 state=running next=5 held=[] numbers={N:0,M:0,I:0,K9:0,COUNT:0} strings={B:,A:}\nstep 11: n=0 notes=0 split=- trials=0 in=0 out=0 state=running next=11 held=[] numbers={N:0,M:0,I:0,K9:0,COUNT:0} strings={B:,A:}\nstep 12: n=0 notes=0 split=- trials=0 in=0 out=0 state=running next=16 held=[] numbers={N:0,M:0,I:0,K9:0,COUNT:0} strings={B:,A:}\nstep 13: n=0 notes=0 split=- trials=0 in=0 out=0 state=running next=4 held=[] numbers={N:0,M:0,I:0,K9:0,COUNT:0} strings={B:,A:}\nstep 14: n=0 notes=0 split=- trials=0 in=0 out=0 state=running next=5 held=[] numbers={N:0,M:0,I:0,K9:0,COUNT:0} strings={B:,A:}\nstep 15: n=0 notes=0 split=- trials=0 in=0 out=0 state=running next=11 held=[] numbers={N:0,M:0,I:0,K9:0,COUNT:0} strings={B:,A:}\nstep 16: n=0 notes=0 split=- trials=0 in=0 out=0 state=running next=16 held=[] numbers={N:0,M:0,I:0,K9:0,COUNT:0} strings={B:,A:}\nstep 17: n=0 notes=0 split=- trials=0 in=0 out=0 state=running next=4 held=[] numbers={N:0,M:0,I:0,K9:0,COUNT:0} strings={B:,A:}\nstep 18: n=0 notes=0 split=- trials=0 in=0 out=0 state=running next=5 held=[] numbers={N:0,M:0,I:0,K9:0,COUNT:0} strings={B:,A:}\nstep 19: n=0 notes=0 split=- trials=0 in=0 out=0 state=running next=11 held=[] numbers={N:0,M:0,I:0,K9:0,COUNT:0} strings={B:,A:}\nstep 20: n=0 notes=0 split=- trials=0 in=0 out=0 state=running next=16 held=[] numbers={N:0,M:0,I:0,K9:0,COUNT:0} strings={B:,A:}\nstep 21: n=0 notes=0 split=- trials=0 in=0 out=0 state=running next=4 held=[] numbers={N:0,M:0,I:0,K9:0,COUNT:0} strings={B:,A:}\nstep 22: n=0 notes=0 split=- trials=0 in=0 out=0 state=running next=5 held=[] numbers={N:0,M:0,I:0,K9:0,COUNT:0} strings={B:,A:}\nstep 23: n=0 notes=0 split=- trials=0 in=0 out=0 state=running next=11 held=[] numbers={N:0,M:0,I:0,K9:0,COUNT:0} strings={B:,A:}\nstep 24: n=0 notes=0 split=- trials=0 in=0 out=0 state=running next=16 held=[] numbers={N:0,M:0,I:0,K9:0,COUNT:0} strings={B:,A:}\nstep 25: n=0 notes=0 split=- trials=0 in=0 out=0 state=running next=4 held=[] numbers={N:0,M:0,I:0,K9:0,COUNT:0} strings={B:,A:}\nstep 26: n=0 notes=0 split=- trials=0 in=0 out=0 state=running next=5 held=[] numbers={N:0,M:0,I:0,K9:0,COUNT:0} strings={B:,A:}\nstep 27: n=0 notes=0 split=- trials=0 in=0 out=0 state=running next=11 held=[] numbers={N:0,M:0,I:0,K9:0,COUNT:0} strings={B:,A:}\nstep 28: n=0 notes=0 split=- trials=0 in=0 out=0 state=running next=16 held=[] numbers={N:0,M:0,I:0,K9:0,COUNT:0} strings={B:,A:}\nstep 29: n=0 notes=0 split=- trials=0 in=0 out=0 state=running next=4 held=[] numbers={N:0,M:0,I:0,K9:0,COUNT:0} strings={B:,A:}\nstep 30: n=0 notes=0 split=- trials=0 in=0 out=0 state=running next=5 held=[] numbers={N:0,M:0,I:0,K9:0,COUNT:0} strings={B:,A:}\nstep 31: n=0 notes=0 split=- trials=0 in=0 out=0 state=running next=11 held=[] numbers={N:0,M:0,I:0,K9:0,COUNT:0} strings={B:,A:}\nstep 32: n=0 notes=0 split=- trials=0 in=0 out=0 state=running next=16 held=[] numbers={N:0,M:0,I:0,K9:0,COUNT:0} strings={B:,A:}\nstep 33: n=0 notes=0 split=- trials=0 in=0 out=0 state=running next=4 held=[] numbers={N:0,M:0,I:0,K9:0,COUNT:0} strings={B:,A:}\nstep 34: n=0 notes=0 split=- trials=0 in=0 out=0 state=running next=5 held=[] numbers={N:0,M:0,I:0,K9:0,COUNT:0} strings={B:,A:}\nstep 35: n=0 notes=0 split=- trials=0 in=0 out=0 state=running next=11 held=[] numbers={N:0,M:0,I:0,K9:0,COUNT:0} strings={B:,A:}\nstep 36: n=0 notes=0 split=- trials=0 in=0 out=0 state=running next=16 held=[] numbers={N:0,M:0,I:0,K9:0,COUNT:0} strings={B:,A:}\nstep 37: n=0 notes=0 split=- trials=0 in=0 out=0 state=running next=4 held=[] numbers={N:0,M:0,I:0,K9:0,COUNT:0} strings={B:,A:}\nstep 38: n=0 notes=0 split=- trials=0 in=0 out=0 state=running next=5 held=[] numbers={N:0,M:0,I:0,K9:0,COUNT:0} strings={B:,A:}\nstep 39: n=0 notes=0 split=- trials=0 in=0 out=0 state=running next=11 held=[] numbers={N:0,M:0,I:0,K9:0,COUNT:0} strings={B:,A:}\nstep 40: n=0 notes=0 split=- trials=0 in=0 out=0 state=running next=16 held=[] numbers={N:0,M:0,I:0,K9:0,COUNT:0} strings={B:,A:}\nstep 41: n=0 notes=0 split=- trials=0 in=0 out=0 state=running next=4 held=[] numbers={N:0,M:0,I:0,K9:0,COUNT:0} strings={B:,A:}\nstep 42: n=0 notes=0 split=- trials=0 in=0 out=0 state=running next=5 held=[] numbers={N:0,M:0,I:0,K9:0,COUNT:0} strings={B:,A:}\nstep 43: n=0 notes=0 split=- trials=0 in=0 out=0 state=running next=11 held=[] numbers={N:0,M:0,I:0,K9:0,COUNT:0} strings={B:,A:}\nstep 44: n=0 notes=0 split=- trials=0 in=0 out=0 state=running next=16 held=[] numbers={N:0,M:0,I:0,K9:0,COUNT:0} strings={B:,A:}\nstep 45: n=0 notes=0 split=- trials=0 in=0 out=0 state=running next=4 held=[] numbers={N:0,M:0,I:0,K9:0,COUNT:0} strings={B:,A:}\nstep 46: n=0 notes=0 split=- trials=0 in=0 out=0 state=running next=5 held=[] numbers={N:0,M:0,I:0,K9:0,COUNT:0} strings={B:,A:}\nstep 47: n=0 notes=0 split=- trials=0 in=0 out=0 state=running next=11 held=[] numbers={N:0,M:0,I:0,K9:0,COUNT:0} strings={B:,A:}\nstep 48: n=0 notes=0 split=- trials=0 in=0 out=0 state=running next=16 held=[] numbers={N:0,M:0,I:0,K9:0,COUNT:0} strings={B:,A:}\nstep 49: n=0 notes=0 split=- trials=0 in=0 out=0 state=running next=4 held=[] numbers={N:0,M:0,I:0,K9:0,COUNT:0} strings={B:,A:}\nstep 50: n=0 notes=0 split=- trials=0 in=0 out=0 state=running next=5 held=[] numbers={N:0,M:0,I:0,K9:0,COUNT:0} strings={B:,A:}\nstep 51: n=0 notes=0 split=- trials=0 in=0 out=0 state=running next=11 held=[] numbers={N:0,M:0,I:0,K9:0,COUNT:0} strings={B:,A:}\nstep 52: n=0 notes=0 split=- trials=0 in=0 out=0 state=running next=16 held=[] numbers={N:0,M:0,I:0,K9:0,COUNT:0} strings={B:,A:}\nstep 53: n=0 notes=0 split=- trials=0 in=0 out=0 state=running next=4 held=[] numbers={N:0,M:0,I:0,K9:0,COUNT:0} strings={B:,A:}\nstep 54: n=0 notes=0 split=- trials=0 in=0 out=0 state=running next=5 held=[] numbers={N:0,M:0,I:0,K9:0,COUNT:0} strings={B:,A:}\nstep 55: n=0 notes=0 split=- trials=0 in=0 out=0 state=running next=11 held=[] numbers={N:0,M:0,I:0,K9:0,COUNT:0} strings={B:,A:}\nstep 56: n=0 notes=0 split=- trials=0 in=0 out=0 state=running next=16 held=[] numbers={N:0,M:0,I:0,K9:0,COUNT:0} strings={B:,A:}\nstep 57: n=0 notes=0 split=- trials=0 in=0 out=0 state=running next=4 held=[] numbers={N:0,M:0,I:0,K9:0,COUNT:0} strings={B:,A:}\nstep 58: n=0 notes=0 split=- trials=0 in=0 out=0 state=running next=5 held=[] numbers={N:0,M:0,I:0,K9:0,COUNT:0} strings={B:,A:}\nstep 59: n=0 notes=0 split=- trials=0 in=0 out=0 state=running next=11 held=[] numbers={N:0,M:0,I:0,K9:0,COUNT:0} strings={B:,A:}\nstep 60: n=0 notes=0 split=- trials=0 in=0 out=0 state=running next=16 held=[] numbers={N:0,M:0,I:0,K9:0,COUNT:0} strings={B:,A:}\n" ≡ true
unfolding agrees
v112 = refl

v113 : agrees "         PR  O  GRAM LOTS\n         NUM  BER N,M  ,I\nL3       WRITE STRING(M)\n         ROUTINE R1\n         B=STRI  NG(0,N),\"A \"\n                                                                        SEQ\n         IF(+7=NUMBER(A))/DONE\nDONE     PRINT \"B 1\"\n        1SCA N B$M[\"2B \"]  \n         =B$I/DONE\n         E NDROUTINE\nLOOP     C=STRING(3,N)\n X9      I=I-NUMBER(F$3)\n         RE  AD C\n         ROUTINE R2\n         SCAN TEXTLONG[]\n         I=-NUMBER(TEXTLONG$3)*NUMBER(B)*LENGTH(B)                      SEQ65444\n         SC A  N G$ N[(B ),(A)]=\"0,=\"/ ,L1\n         PRINT TEXTLONG\n L1      ENDROUT I  NE\nL2       END\n" " \n" "step 1: n=0 notes=0 split=- trials=0 in=0 out=2 state=running next=4 held=[] numbers={N:0,M:0,I:0} strings={B:,A:,C:,F:,TEXTLONG:,G:}\nstep 2: n=0 notes=0 split=- trials=0 in=0 out=2 state=running next=12 held=[] numbers={N:0,M:0,I:0} strings={B:,A:,C:,F:,TEXTLONG:,G:}\nstep 3: n=0 notes=0 split=- trials=0 in=0 out=2 state=running next=13 held=[] numbers={N:0,M:0,I:0} strings={B:,A:,C:303030,F:,TEXTLONG:,G:}\nstep 4: n=0 notes=1 split=- trials=0 in=0 out=2 state=running next=14 held=[] numbers={N:0,M:0,I:0} strings={B:,A:,C:303030,F:,TEXTLONG:,G:}\nstep 5: n=0 notes=0 split=- trials=0 in=2 out=2 state=running next=15 held=[] numbers={N:0,M:0,I:0} strings={B:,A:,C:20,F:,TEXTLONG:,G:}\nstep 6: n=0 notes=0 split=- trials=0 in=2 out=2 state=running next=21 held=[] numbers={N:0,M:0,I:0} strings={B:,A:,C:20,F:,TEXTLONG:,G:}\nstep 7: n=0 notes=0 split=- trials=0 in=2 out=2 state=finished next=21 held=[] numbers={N:0,M:0,I:0} strings={B:,A:,C:20,F:,TEXTLONG:,G:}\n" ≡ true
unfolding agrees
v113 = refl

v114 : agrees "         PROGRAM TEST1\n         NUMBER N\n         BACKSCAN C[]/DONE\n         IF(LENGTH(B)<>N)/L2,L2\nLOOP     SCAN TEXTLONG[(A),(A),(B),STRING(0,N)]/X9\nX9       BACKSCAN LINE[STRING(0,N),\"1\"]\nL2       SCAN F[]/DONE\nL3       GOTO X9\n         IF(N<N)/,L2\n         SCAN B[(C$3),(LINE$2),TEXTLONG]/LOOP\n* COMMENT 6\nL1       C$N=C\n DONE    N=N*1\n         A  =\"A1\",\"11\"\n         N=N\n         END\n" " B B12\nB-2A-2-, 1AA11+B+BAA , A 2B-0A,0 2--A, -\n B12+020A,-+\n, 1+01,-A,AAA,-1AA,A-B2,,A 2BA , ++A- +A\n\nA BB-,B,-A- \n+2BA1A1-11A \n\nAAAAAAAAAAAAAAAAAAAAAAAAAAAAAAAAAAAAAAAAAAAAAAAAAAAAAAAAAAAAAAAAAAAAAAAAAAAAAAAAAAAAAAAAAAAAAAAAAAAAAAAAAAAAAAAAAAAAAAAAAAAAAAAAAAAAAAAAAAAAAAAAAAAAAAAAAAAAAAAAAAAAAAAAAAAAAAAAAAAAAAAAAAAAAAAAAAAAAAAAAAAAAAAAAAAAAAAAAAAAAAAAAAAAAAAAAAAAAAAAAAAAAAAAAAAAAAAAAAAAAAAAAAAAAAAAAAAAAAAAAAAAAAAAAAAAAAAAAAAAAAAAAAAAAAAAAAAAAAAAAAAAAAAAAAAAAAAAAAAAAAAAAAAAAAAAAAAAAAAAAAAAAAAAAAAAAAAAAAAAAAAAAAAAAAAAAAAAAAAAAAAAAAAAAAAAAAAAAAAAAAAAAAAAAAAAAAAAAAAAAAAAAAAAAAAAAAAAAAAAAAAAAAAAAAAAAAAAAAAAAAAAAAAAAAAAAAAAAAAAAAAAAAAAAAAAAAAAAAAAAAAAAAAAAAAAAAAAAAAAAAAAAAAAAAAAAAAAAAAAAAAAAAAAAAAAAAAAAAAAAAAAAAAAAAAAAAAAAAAAAAAAAAAAAAAAAAAAAAAAAAAAAAAAAAAAAAAAAAAAAAAAAAAAAAAAAAAAAAAAAAAAAAAAAAAAAAAAAAAAAAAAAAAAAAAAAAAAAAAAAAAAAAAAAAAAAAAAAAAAAAAAAAAAAAAAAAAAAAAAAAAAAAAAAAAAAAAAAAAAAAAAAAAAAAAAAAAAAAAAAAAAAAAAAAAAAAAAAAAAAAAAAAAAAAAAAAAAAAAAAAAAAAAAAAAAAAAAAAAAAAAAAAAAAAAAAAAAAAAAAAAAAAAAAAAAAAAAAAAAAAAAAAAAAAAAAAAAAAAAAAAAAAAAAAAAAAAAAAAAAAAAAAAAAAAAAAAAAAAAAAAAAAAAAAAAAAAAAAAAAAAAAAAAAAAAAAAAAAAAAAAAAAAAAAAAAAAAAAAAAAAAAAAAAAAAAAAAAAAAAAAAAAAAAAAAAAAAAAAAAAAAAAAAAAAAAAAAA\n" "step 1: n=0 notes=0 split=0; trials=0 in=0 out=0 state=running next=13 held=[] numbers={N:0} strings={C:,B:,TEXTLONG:,A:,LINE:,F:}\nstep 2: n=0 notes=0 split=- trials=0 in=0 out=0 state=running next=14 held=[] numbers={N:0} strings={C:,B:,TEXTLONG:,A:,LINE:,F:}\nstep 3: n=0 notes=0 split=- trials=0 in=0 out=0 state=running next=15 held=[] numbers={N:0} strings={C:,B:,TEXTLONG:,A:41313131,LINE:,F:}\nstep 4: n=0 notes=0 split=- trials=0 in=0 out=0 state=running next=16 held=[] numbers={N:0} strings={C:,B:,TEXTLONG:,A:41313131,LINE:,F:}\nstep 5: n=0 notes=0 split=- trials=0 in=0 out=0 state=finished next=16 held=[] numbers={N:0} strings={C:,B:,TEXTLONG:,A:41313131,LINE:,F:}\n" ≡ true
unfolding agrees
v114 = refl

v115 : agrees "         PROGRAM TEST1                                                  SEQ75644\n START   NUMBER N,M,I,K9,COUNT                                          SEQ38850\nL3       TEXTLONG=\"B\"                                                   SEQ76570\n\nL2      CSCAN C[\n        *(S1),(G\n        X),(TEXT                                                        SEQ77707\n        +LONG)]=\n         \" \"\nLOOP     ROUTINE R2                                                     SEQ99101\n         F$I=\" \"\nX9       ENDROUTINE\n L1      ROUTINE R1\n         WRITE STRING(2,COUNT)\n         RE  AD A$ 6/D  O  NE\n         PRINT G$5\n DONE    READ A\n         ENDROUTINE\n         END\n" "0 B--,,-- 0A\n1" "step 1: n=0 notes=0 split=- trials=0 in=0 out=0 state=running next=5 held=[] numbers={N:0,M:0,I:0,K9:0,COUNT:0} strings={TEXTLONG:42,C:,S1:,G:,F:,A:}\nstep 2: n=0 notes=0 split=0;0,0,0 trials=0 in=0 out=0 state=running next=10 held=[] numbers={N:0,M:0,I:0,K9:0,COUNT:0} strings={TEXTLONG:,C:20,S1:,G:,F:,A:}\nstep 3: n=0 notes=0 split=- trials=0 in=0 out=0 state=running next=13 held=[] numbers={N:0,M:0,I:0,K9:0,COUNT:0} strings={TEXTLONG:,C:20,S1:,G:,F:,A:}\nstep 4: n=0 notes=0 split=- trials=0 in=0 out=0 state=running next=19 held=[] numbers={N:0,M:0,I:0,K9:0,COUNT:0} strings={TEXTLONG:,C:20,S1:,G:,F:,A:}\nstep 5: n=0 notes=0 split=- trials=0 in=0 out=0 state=finished next=19 held=[] numbers={N:0,M:0,I:0,K9:0,COUNT:0} strings={TEXTLONG:,C:20,S1:,G:,F:,A:}\n" ≡ true
unfolding agrees
v115 = refl

v116 : agrees "         PR OGRAM  LOTS\n         NUMBER N,M,I,K9\nDONE     SCAN A[STRING(0  ,N ) ]=ST  RI  NG(M  ),\"*$\"/LOOP,X9\nL1       IF(5<I)/L1,DONE\n         K9=0/3662*LENGTH(C)-NUMBER(A$N)*0*(-(1984002))\nL2       SCAN LINE[(S1),(S1$K9),\"2B\",\"A1,A1\",\" \"]=\"/$/\",STRING(N)/DONE\nX9       C=\"2\"\n* COMMENT 6\n LOOP    N=LENGTH(TEXTLONG)\nL3       END" "12 \n2AB -2\nA0 -+ \nA+A+, 1A,  1 A-B,-B-B+A-00B1+,2,-+ -1+BB" "step 1: n=0 notes=0 split=- trials=1 in=0 out=0 state=running next=7 held=[] numbers={N:0,M:0,I:0,K9:0} strings={A:,C:,LINE:,S1:,TEXTLONG:}\nstep 2: n=0 notes=0 split=- trials=0 in=0 out=0 state=running next=9 held=[] numbers={N:0,M:0,I:0,K9:0} strings={A:,C:32,LINE:,S1:,TEXTLONG:}\nstep 3: n=0 notes=0 split=- trials=0 in=0 out=0 state=running next=10 held=[] numbers={N:0,M:0,I:0,K9:0} strings={A:,C:32,LINE:,S1:,TEXTLONG:}\nstep 4: n=0 notes=0 split=- trials=0 in=0 out=0 state=finished next=10 held=[] numbers={N:0,M:0,I:0,K9:0} strings={A:,C:32,LINE:,S1:,TEXTLONG:}\n" ≡ true
unfolding agrees
v116 = refl

v117 : agrees "         PROGRAM LOTS\n         NUMBER   N\nLOOP     W  RITE \nL3      *N=NUMBER(B)+NUMBE\n         R(B)\n         A=A\n\n         ROUTINE R1\n L1      A=STRING(N),A\n         N=(N)/(4828494)*LENGTH(B)\nL2       S  CAN B[(A$0)]/L2,L1                                          SEQ20828\n         SCAN B[]=\"+(\"/L1,L2\n         END ROU  TINE \n         BACKSCAN B[(A)]\n         A$6=                                                           SEQ49439\n         SCAN A$N[\")30*,\",(B),A]=/X9,X9\nDONE     PRINT(61) \"32\",B$N\nX9       IF(N U ME  RI  C(A))/,LOO  P\n         PRINT(61) \"3*\"\n         END\n" "2\n" "step 1: n=0 notes=0 split=- trials=0 in=0 out=0 state=running next=4 held=[] numbers={N:0} strings={B:,A:}\nstep 2: n=0 notes=2 split=- trials=0 in=0 out=0 state=running next=6 held=[] numbers={N:0} strings={B:,A:}\nstep 3: n=0 notes=0 split=- trials=0 in=0 out=0 state=running next=8 held=[] numbers={N:0} strings={B:,A:}\nstep 4: n=0 notes=0 split=- trials=0 in=0 out=0 state=running next=14 held=[] numbers={N:0} strings={B:,A:}\nstep 5: n=0 notes=0 split=0;0 trials=0 in=0 out=0 state=running next=15 held=[] numbers={N:0} strings={B:,A:}\nstep 6: n=0 notes=0 split=- trials=0 in=0 out=0 state=running next=16 held=[] numbers={N:0} strings={B:,A:}\nstep 7: n=0 notes=0 split=- trials=1 in=0 out=0 state=running next=18 held=[] numbers={N:0} strings={B:,A:}\nstep 8: n=0 notes=0 split=- trials=0 in=0 out=0 state=running next=3 held=[] numbers={N:0} strings={B:,A:}\nstep 9: n=0 notes=0 split=- trials=0 in=0 out=0 state=running next=4 held=[] numbers={N:0} strings={B:,A:}\nstep 10: n=0 notes=2 split=- trials=0 in=0 out=0 state=running next=6 held=[] numbers={N:0} strings={B:,A:}\nstep 11: n=0 notes=0 split=- trials=0 in=0 out=0 state=running next=8 held=[] numbers={N:0} strings={B:,A:}\nstep 12: n=0 notes=0 split=- trials=0 in=0 out=0 state=running next=14 held=[] numbers={N:0} strings={B:,A:}\nstep 13: n=0 notes=0 split=0;0 trials=0 in=0 out=0 state=running next=15 held=[] numbers={N:0} strings={B:,A:}\nstep 14: n=0 notes=0 split=- trials=0 in=0 out=0 state=running next=16 held=[] numbers={N:0} strings={B:,A:}\nstep 15: n=0 notes=0 split=- trials=1 in=0 out=0 state=running next=18 held=[] numbers={N:0} strings={B:,A:}\nstep 16: n=0 notes=0 split=- trials=0 in=0 out=0 state=running next=3 held=[] numbers={N:0} strings={B:,A:}\nstep 17: n=0 notes=0 split=- trials=0 in=0 out=0 state=running next=4 held=[] numbers={N:0} strings={B:,A:}\nstep 18: n=0 notes=2 split=- trials=0 in=0 out=0 state=running next=6 held=[] numbers={N:0} strings={B:,A:}\nstep 19: n=0 notes=0 split=- trials=0 in=0 out=0 state=running next=8 held=[] numbers={N:0} strings={B:,A:}\nstep 20: n=0 notes=0 split=- trials=0 in=0 out=0 state=running next=14 held=[] numbers={N:0} strings={B:,A:}\nstep 21: n=0 notes=0 split=0;0 trials=0 in=0 out=0 state=running next=15 held=[] numbers={N:0} strings={B:,A:}\nstep 22: n=0 notes=0 split=- trials=0 in=0 out=0 state=running next=16 held=[] numbers={N:0} strings={B:,A:}\nstep 23: n=0 notes=0 split=- trials=1 in=0 out=0 state=running next=18 held=[] numbers={N:0} strings={B:,A:}\nstep 24: n=0 notes=0 split=- trials=0 in=0 out=0 state=running next=3 held=[] numbers={N:0} strings={B:,A:}\nstep 25: n=0 notes=0 split=- trials=0 in=0 out=0 state=running next=4 held=[] numbers={N:0} strings={B:,A:}\nstep 26: n=0 notes=2 split=- trials=0 in=0 out=0 state=running next=6 held=[] numbers={N:0} strings={B:,A:}\nstep 27: n=0 notes=0 split=- trials=0 in=0 out=0 state=running next=8 held=[] numbers={N:0} strings={B:,A:}\nstep 28: n=0 notes=0 split=- trials=0 in=0 out=0 state=running next=14 held=[] numbers={N:0} strings={B:,A:}\nstep 29: n=0 notes=0 split=0;0 trials=0 in=0 out=0 state=running next=15 held=[] numbers={N:0} strings={B:,A:}\nstep 30: n=0 notes=0 split=- trials=0 in=0 out=0 state=running next=16 held=[] numbers={N:0} strings={B:,A:}\nstep 31: n=0 notes=0 split=- trials=1 in=0 out=0 state=running next=18 held=[] numbers={N:0} strings={B:,A:}\nstep 32: n=0 notes=0 split=- trials=0 in=0 out=0 state=running next=3 held=[] numbers={N:0} strings={B:,A:}\nstep 33: n=0 notes=0 split=- trials=0 in=0 out=0 state=running next=4 held=[] numbers={N:0} strings={B:,A:}\nstep 34: n=0 notes=2 split=- trials=0 in=0 out=0 state=running next=6 held=[] numbers={N:0} strings={B:,A:}\nstep 35: n=0 notes=0 split=- trials=0 in=0 out=0 state=running next=8 held=[] numbers={N:0} strings={B:,A:}\nstep 36: n=0 notes=0 split=- trials=0 in=0 out=0 state=running next=14 held=[] numbers={N:0} strings={B:,A:}\nstep 37: n=0 notes=0 split=0;0 trials=0 in=0 out=0 state=running next=15 held=[] numbers={N:0} strings={B:,A:}\nstep 38: n=0 notes=0 split=- trials=0 in=0 out=0 state=running next=16 held=[] numbers={N:0} strings={B:,A:}\nstep 39: n=0 notes=0 split=- trials=1 in=0 out=0 state=running next=18 held=[] numbers={N:0} strings={B:,A:}\nstep 40: n=0 notes=0 split=- trials=0 in=0 out=0 state=running next=3 held=[] numbers={N:0} strings={B:,A:}\nstep 41: n=0 notes=0 split=- trials=0 in=0 out=0 state=running next=4 held=[] numbers={N:0} strings={B:,A:}\nstep 42: n=0 notes=2 split=- trials=0 in=0 out=0 state=running next=6 held=[] numbers={N:0} strings={B:,A:}\nstep 43: n=0 notes=0 split=- trials=0 in=0 out=0 state=running next=8 held=[] numbers={N:0} strings={B:,A:}\nstep 44: n=0 notes=0 split=- trials=0 in=0 out=0 state=running next=14 held=[] numbers={N:0} strings={B:,A:}\nstep 45: n=0 notes=0 split=0;0 trials=0 in=0 out=0 state=running next=15 held=[] numbers={N:0} strings={B:,A:}\nstep 46: n=0 notes=0 split=- trials=0 in=0 out=0 state=running next=16 held=[] numbers={N:0} strings={B:,A:}\nstep 47: n=0 notes=0 split=- trials=1 in=0 out=0 state=running next=18 held=[] numbers={N:0} strings={B:,A:}\nstep 48: n=0 notes=0 split=- trials=0 in=0 out=0 state=running next=3 held=[] numbers={N:0} strings={B:,A:}\nstep 49: n=0 notes=0 split=- trials=0 in=0 out=0 state=running next=4 held=[] numbers={N:0} strings={B:,A:}\nstep 50: n=0 notes=2 split=- trials=0 in=0 out=0 state=running next=6 held=[] numbers={N:0} strings={B:,A:}\nstep 51: n=0 notes=0 split=- trials=0 in=0 out=0 state=running next=8 held=[] numbers={N:0} strings={B:,A:}\nstep 52: n=0 notes=0 split=- trials=0 in=0 out=0 state=running next=14 held=[] numbers={N:0} strings={B:,A:}\nstep 53: n=0 notes=0 split=0;0 trials=0 in=0 out=0 state=running next=15 held=[] numbers={N:0} strings={B:,A:}\nstep 54: n=0 notes=0 split=- trials=0 in=0 out=0 state=running next=16 held=[] numbers={N:0} strings={B:,A:}\nstep 55: n=0 notes=0 split=- trials=1 in=0 out=0 state=running next=18 held=[] numbers={N:0} strings={B:,A:}\nstep 56: n=0 notes=0 split=- trials=0 in=0 out=0 state=running next=3 held=[] numbers={N:0} strings={B:,A:}\nstep 57: n=0 notes=0 split=- trials=0 in=0 out=0 state=running next=4 held=[] numbers={N:0} strings={B:,A:}\nstep 58: n=0 notes=2 split=- trials=0 in=0 out=0 state=running next=6 held=[] numbers={N:0} strings={B:,A:}\nstep 59: n=0 notes=0 split=- trials=0 in=0 out=0 state=running next=8 held=[] numbers={N:0} strings={B:,A:}\nstep 60: n=0 notes=0 split=- trials=0 in=0 out=0 state=running next=14 held=[] numbers={N:0} strings={B:,A:}\n" ≡ true
unfolding agrees
v117 = refl

v118 : agrees "         PROGRAM P\n         NUMBER N,M,ENDROUTINE                                          SEQ24719\n         IF=\n         SCAN B  $2[]\n         SCAN S1$3[]=\"BB\",C,B$M,A$N\nL2       EXECUTE R3\n         ROUTINE R2\nX9       ENDROUTINE\nDONE     ROUTINE R1                                                     SEQ44007\n         LINE=IF$N\nLOOP     READ(60) B/,L1\nL1       BACKSCAN A[(IF),  (LINE  )]\n         ENDROUTINE\n         IF=\n* COMMENT 1\n         WRITE IF  $ N ,S1$ M\n         RO U  TI  NE R3                                                SEQ96851\nL3       ENDROUTINE\n         END\n" "\n01+,1A10,AA1 0B00-0202,++  0A2A0+AA+AB -\n\n20A0+B\n 0- -BAAA+A+\n1\nB,,\n001-0,,A2A 1A2 AB,1AB+2,1+BAA+,AA,A-,,A1\n" "REFUSED 5 2\n" ≡ true
unfolding agrees
v118 = refl

v119 : agrees "         PROGRAM  LOTS\n         NUMBER N,M,I,K9,COUNT\nX9      1EXECUTE R\n         2\n         R OUTI  NE   R2\n         GO TO L2\n        XWRITE LINE$1,\"-\",STRING(I)\nIGNORED  ,\" 1 ,A\"\n        *SCA N C[STR ING(M),B$0,T  EXTLONG$ 0  ,S1,LINE$COUNT,\"*=\",(F) ]\n         =/,L2\n         PRINT F,STRING(N),S1$1                                         SEQ10420\nL2       ENDROUTINE\n         SCAN F$N[C$2,(LINE)]=A\n         ROUTINE R3\nL3       ENDROUTINE\nDONE     ROUTINE R1\n         LINE$0=  \"AA\"\n L1      READ F$5/L1,L1\n         E  NDROUTINE\n         TEXTLO  NG=S  TRIN  G  ( 2,I),C$4,LINE$ M                      SEQ21932\n         PRINT \n         N=+((2-(+LENGTH(C)*LENGTH(LINE)))/N/I*3155736-NUMBER(S1$K9))\n         IF(+3>=LENGTH(F))/LOOP\n         READ(60) TEXTLONG/DONE,X9\n         READ TEXTLONG\n         B=\n         EXECUTE R1\nLOOP     END\n" "\n-,1, 0\nB\n" "step 1: n=0 notes=0 split=- trials=0 in=0 out=0 state=running next=6 held=[5] numbers={N:0,M:0,I:0,K9:0,COUNT:0} strings={LINE:,C:,B:,TEXTLONG:,S1:,F:,A:}\nstep 2: n=0 notes=0 split=- trials=0 in=0 out=0 state=running next=12 held=[5] numbers={N:0,M:0,I:0,K9:0,COUNT:0} strings={LINE:,C:,B:,TEXTLONG:,S1:,F:,A:}\nstep 3: n=0 notes=0 split=- trials=0 in=0 out=0 state=running next=5 held=[] numbers={N:0,M:0,I:0,K9:0,COUNT:0} strings={LINE:,C:,B:,TEXTLONG:,S1:,F:,A:}\nstep 4: n=0 notes=0 split=- trials=0 in=0 out=0 state=running next=13 held=[] numbers={N:0,M:0,I:0,K9:0,COUNT:0} strings={LINE:,C:,B:,TEXTLONG:,S1:,F:,A:}\nstep 5: n=0 notes=0 split=0;0,0 trials=1 in=0 out=0 state=running next=14 held=[] numbers={N:0,M:0,I:0,K9:0,COUNT:0} strings={LINE:,C:,B:,TEXTLONG:,S1:,F:,A:}\nstep 6: n=0 notes=0 split=- trials=0 in=0 out=0 state=running next=16 held=[] numbers={N:0,M:0,I:0,K9:0,COUNT:0} strings={LINE:,C:,B:,TEXTLONG:,S1:,F:,A:}\nstep 7: n=0 notes=0 split=- trials=0 in=0 out=0 state=running next=20 held=[] numbers={N:0,M:0,I:0,K9:0,COUNT:0} strings={LINE:,C:,B:,TEXTLONG:,S1:,F:,A:}\nstep 8: n=0 notes=0 split=- trials=0 in=0 out=0 state=running next=21 held=[] numbers={N:0,M:0,I:0,K9:0,COUNT:0} strings={LINE:,C:,B:,TEXTLONG:3030,S1:,F:,A:}\nstep 9: n=0 notes=0 split=- trials=0 in=0 out=0 state=running next=22 held=[] numbers={N:0,M:0,I:0,K9:0,COUNT:0} strings={LINE:,C:,B:,TEXTLONG:3030,S1:,F:,A:}\nstep 10: n=18 notes=0 split=- trials=0 in=0 out=0 state=stopped next=22 held=[] numbers={N:0,M:0,I:0,K9:0,COUNT:0} strings={LINE:,C:,B:,TEXTLONG:3030,S1:,F:,A:}\n" ≡ true
unfolding agrees
v119 = refl

v120 : agrees "         PROGRAM LOTS\n         NUMBER N,M,I\nL2       G  OTO X9\n         WRITE   STRING  (I),C$M,A  $N  ,\"\"\"\nX9       PR  I  NT   LIN E$5,\"-B3\"\n LOOP    PRINT STRING(N),S1,A$3\nDONE     C=\"BA\"\n         I=I\nL3      *BACK S  CA  N LINE\n        +$2  [(A)]= ST RING\nIGNORED  (M)\n L1      END\n" "" "step 1: n=0 notes=0 split=- trials=0 in=0 out=0 state=running next=5 held=[] numbers={N:0,M:0,I:0} strings={C:,A:,LINE:,S1:}\nstep 2: n=0 notes=0 split=- trials=0 in=0 out=4 state=running next=6 held=[] numbers={N:0,M:0,I:0} strings={C:,A:,LINE:,S1:}\nstep 3: n=0 notes=0 split=- trials=0 in=0 out=6 state=running next=7 held=[] numbers={N:0,M:0,I:0} strings={C:,A:,LINE:,S1:}\nstep 4: n=0 notes=0 split=- trials=0 in=0 out=6 state=running next=8 held=[] numbers={N:0,M:0,I:0} strings={C:4241,A:,LINE:,S1:}\nstep 5: n=0 notes=0 split=- trials=0 in=0 out=6 state=running next=9 held=[] numbers={N:0,M:0,I:0} strings={C:4241,A:,LINE:,S1:}\nstep 6: n=0 notes=0 split=0;0 trials=0 in=0 out=6 state=running next=12 held=[] numbers={N:0,M:0,I:0} strings={C:4241,A:,LINE:30,S1:}\nstep 7: n=0 notes=0 split=- trials=0 in=0 out=6 state=finished next=12 held=[] numbers={N:0,M:0,I:0} strings={C:4241,A:,LINE:30,S1:}\n" ≡ true
unfolding agrees
v120 = refl

v121 : agrees "         PROGRAM LOTS\nSTART    NUMBER N,M,I,K9,COUNT\n         I=COUNT-LENG TH(B  )\n* COMMENT 2\n         ROUTINE R3\nL3       LINE=\"A2B2B\",S1$6,B,A\n DONE    PRINT(61) \nL2       E NDROUTI NE\n         IF(N>LENGTH(C))/LOOP,LOOP\n         GOTO LOOP\n         IF(N>NUMBER(S1$2))/,LOOP\n         ROUTI NE  R2\n         I F(+6<NUMBE R  (B ))/X9,X9                                    SEQ33564\nX9       E ND ROUTI NE\n         ROUTINE R1\n         IF(K9=+0)/L1                                                   SEQ64350\n         EXECUT  E R2                                                   SEQ28989\n         SCAN A[(C$3)]\n         ENDR  OUTI  NE\nLOOP     WRITE B,S1$6,\"12\",\"B,A A,B1AA2A\"\n         END\n" "AB-+2 AB,2-1AB22AA,+A++BA20-AA0+2,A  1AA\n" "REFUSED 11 0\n" ≡ true
unfolding agrees
v121 = refl

v122 : agrees "         PROGRAM LOTS\n START   NUMBER N,M,I\n         ROUTI NE R  1\n LOOP    SCAN A[  (B  )]=STRING(  -6,M  )\nDONE    1W  RITE \"A\",\n         B\n         WRITE \"  , ,\",\"B,1B2\",\"A/\"\n         ENDROUTINE\nL2       M=(+(+(I-0008+1671-I)-4)+(LENGTH(A)))-NUMBER(A)+(M+NUMBER(A$5))\n         BACKSCAN B[B,B]=A,A\n         RE AD B$  M\n         SCAN A[]= \")(-\"/L1, L1\nL3       I=03+M*  (NUMBER(B$M))\n         I=(M*(LENGTH(A)-N )*(L  ENGTH(A)/N))+200\n* COMMENT 4\n L1      WRITE \"AAB,A11,2A2 \"\nX9       I=+LENGTH(A)+7\n         WRITE(61)                                                      SEQ05252\n         BACKSCAN B[B$M]=B,STRING(I)\n         BACKSCAN A[(B),(B),A$2,A]/L1,L2\n         IF( NULL(B ))/X9\n         IF(-1>I)/,L2\n         EN  D\n" ",, \n- A2,2\n-\n,\n2,+0B-\nAA0\n -B\nA++\n" "step 1: n=0 notes=0 split=- trials=0 in=0 out=0 state=running next=9 held=[] numbers={N:0,M:0,I:0} strings={A:,B:}\nstep 2: n=0 notes=2 split=- trials=0 in=0 out=0 state=running next=10 held=[] numbers={N:0,M:1659,I:0} strings={A:,B:}\nstep 3: n=0 notes=0 split=0;0,0 trials=2 in=0 out=0 state=running next=11 held=[] numbers={N:0,M:1659,I:0} strings={A:,B:}\nstep 4: n=0 notes=0 split=- trials=0 in=4 out=0 state=running next=12 held=[] numbers={N:0,M:1659,I:0} strings={A:,B:2c2c20}\nstep 5: n=0 notes=0 split=0; trials=0 in=4 out=0 state=running next=16 held=[] numbers={N:0,M:1659,I:0} strings={A:29282d,B:2c2c20}\nstep 6: n=0 notes=0 split=- trials=0 in=4 out=13 state=running next=17 held=[] numbers={N:0,M:1659,I:0} strings={A:29282d,B:2c2c20}\nstep 7: n=0 notes=0 split=- trials=0 in=4 out=13 state=running next=18 held=[] numbers={N:0,M:1659,I:10} strings={A:29282d,B:2c2c20}\nstep 8: n=0 notes=0 split=- trials=0 in=4 out=13 state=running next=19 held=[] numbers={N:0,M:1659,I:10} strings={A:29282d,B:2c2c20}\nstep 9: n=0 notes=0 split=- trials=2 in=4 out=13 state=running next=20 held=[] numbers={N:0,M:1659,I:10} strings={A:29282d,B:2c2c20}\nstep 10: n=0 notes=0 split=- trials=3 in=4 out=13 state=running next=9 held=[] numbers={N:0,M:1659,I:10} strings={A:29282d,B:}\nstep 11: n=0 notes=2 split=- trials=0 in=4 out=13 state=running next=10 held=[] numbers={N:0,M:3321,I:10} strings={A:29282d,B:}\nstep 12: n=0 notes=0 split=0;0,0 trials=2 in=4 out=13 state=running next=11 held=[] numbers={N:0,M:3321,I:10} strings={A:29282d,B:2d28292d2829}\nstep 13: n=0 notes=0 split=- trials=0 in=11 out=13 state=running next=12 held=[] numbers={N:0,M:3321,I:10} strings={A:29282d,B:2d2041322c32}\nstep 14: n=0 notes=0 split=0; trials=0 in=11 out=13 state=running next=16 held=[] numbers={N:0,M:3321,I:10} strings={A:29282d29282d,B:2d2041322c32}\nstep 15: n=0 notes=0 split=- trials=0 in=11 out=26 state=running next=17 held=[] numbers={N:0,M:3321,I:10} strings={A:29282d29282d,B:2d2041322c32}\nstep 16: n=0 notes=0 split=- trials=0 in=11 out=26 state=running next=18 held=[] numbers={N:0,M:3321,I:13} strings={A:29282d29282d,B:2d2041322c32}\nstep 17: n=0 notes=0 split=- trials=0 in=11 out=26 state=running next=19 held=[] numbers={N:0,M:3321,I:13} strings={A:29282d29282d,B:2d2041322c32}\nstep 18: n=0 notes=0 split=- trials=2 in=11 out=26 state=running next=20 held=[] numbers={N:0,M:3321,I:13} strings={A:29282d29282d,B:2d2041322c32}\nstep 19: n=0 notes=0 split=- trials=6 in=11 out=26 state=running next=9 held=[] numbers={N:0,M:3321,I:13} strings={A:29282d29282d,B:}\nstep 20: n=0 notes=2 split=- trials=0 in=11 out=26 state=running next=10 held=[] numbers={N:0,M:4986,I:13} strings={A:29282d29282d,B:}\nstep 21: n=0 notes=0 split=0;0,0 trials=2 in=11 out=26 state=running next=11 held=[] numbers={N:0,M:4986,I:13} strings={A:29282d29282d,B:2d28292d28292d28292d2829}\nstep 22: n=0 notes=0 split=- trials=0 in=13 out=26 state=running next=12 held=[] numbers={N:0,M:4986,I:13} strings={A:29282d29282d,B:2d}\nstep 23: n=0 notes=0 split=0; trials=0 in=13 out=26 state=running next=16 held=[] numbers={N:0,M:4986,I:13} strings={A:29282d29282d29282d,B:2d}\nstep 24: n=0 notes=0 split=- trials=0 in=13 out=39 state=running next=17 held=[] numbers={N:0,M:4986,I:13} strings={A:29282d29282d29282d,B:2d}\nstep 25: n=0 notes=0 split=- trials=0 in=13 out=39 state=running next=18 held=[] numbers={N:0,M:4986,I:16} strings={A:29282d29282d29282d,B:2d}\nstep 26: n=0 notes=0 split=- trials=0 in=13 out=39 state=running next=19 held=[] numbers={N:0,M:4986,I:16} strings={A:29282d29282d29282d,B:2d}\nstep 27: n=0 notes=0 split=0;1 trials=1 in=13 out=39 state=running next=20 held=[] numbers={N:0,M:4986,I:16} strings={A:29282d29282d29282d,B:36312d}\nstep 28: n=0 notes=0 split=- trials=9 in=13 out=39 state=running next=9 held=[] numbers={N:0,M:4986,I:16} strings={A:29282d29282d29282d,B:}\nstep 29: n=0 notes=2 split=- trials=0 in=13 out=39 state=running next=10 held=[] numbers={N:0,M:6654,I:16} strings={A:29282d29282d29282d,B:}\nstep 30: n=0 notes=0 split=0;0,0 trials=2 in=13 out=39 state=running next=11 held=[] numbers={N:0,M:6654,I:16} strings={A:29282d29282d29282d,B:2d28292d28292d28292d28292d28292d2829}\nstep 31: n=0 notes=0 split=- trials=0 in=15 out=39 state=running next=12 held=[] numbers={N:0,M:6654,I:16} strings={A:29282d29282d29282d,B:2c}\nstep 32: n=0 notes=0 split=0; trials=0 in=15 out=39 state=running next=16 held=[] numbers={N:0,M:6654,I:16} strings={A:29282d29282d29282d29282d,B:2c}\nstep 33: n=0 notes=0 split=- trials=0 in=15 out=52 state=running next=17 held=[] numbers={N:0,M:6654,I:16} strings={A:29282d29282d29282d29282d,B:2c}\nstep 34: n=0 notes=0 split=- trials=0 in=15 out=52 state=running next=18 held=[] numbers={N:0,M:6654,I:19} strings={A:29282d29282d29282d29282d,B:2c}\nstep 35: n=0 notes=0 split=- trials=0 in=15 out=52 state=running next=19 held=[] numbers={N:0,M:6654,I:19} strings={A:29282d29282d29282d29282d,B:2c}\nstep 36: n=0 notes=0 split=0;1 trials=1 in=15 out=52 state=running next=20 held=[] numbers={N:0,M:6654,I:19} strings={A:29282d29282d29282d29282d,B:39312c}\nstep 37: n=0 notes=0 split=- trials=12 in=15 out=52 state=running next=9 held=[] numbers={N:0,M:6654,I:19} strings={A:29282d29282d29282d29282d,B:}\nstep 38: n=0 notes=2 split=- trials=0 in=15 out=52 state=running next=10 held=[] numbers={N:0,M:8325,I:19} strings={A:29282d29282d29282d29282d,B:}\nstep 39: n=0 notes=0 split=0;0,0 trials=2 in=15 out=52 state=running next=11 held=[] numbers={N:0,M:8325,I:19} strings={A:29282d29282d29282d29282d,B:2d28292d28292d28292d28292d28292d28292d28292d2829}\nstep 40: n=0 notes=0 split=- trials=0 in=22 out=52 state=running next=12 held=[] numbers={N:0,M:8325,I:19} strings={A:29282d29282d29282d29282d,B:322c2b30422d}\nstep 41: n=0 notes=0 split=0; trials=0 in=22 out=52 state=running next=16 held=[] numbers={N:0,M:8325,I:19} strings={A:29282d29282d29282d29282d29282d,B:322c2b30422d}\nstep 42: n=0 notes=0 split=- trials=0 in=22 out=65 state=running next=17 held=[] numbers={N:0,M:8325,I:19} strings={A:29282d29282d29282d29282d29282d,B:322c2b30422d}\nstep 43: n=0 notes=0 split=- trials=0 in=22 out=65 state=running next=18 held=[] numbers={N:0,M:8325,I:22} strings={A:29282d29282d29282d29282d29282d,B:322c2b30422d}\nstep 44: n=0 notes=0 split=- trials=0 in=22 out=65 state=running next=19 held=[] numbers={N:0,M:8325,I:22} strings={A:29282d29282d29282d29282d29282d,B:322c2b30422d}\nstep 45: n=0 notes=0 split=- trials=2 in=22 out=65 state=running next=20 held=[] numbers={N:0,M:8325,I:22} strings={A:29282d29282d29282d29282d29282d,B:322c2b30422d}\nstep 46: n=0 notes=0 split=- trials=15 in=22 out=65 state=running next=9 held=[] numbers={N:0,M:8325,I:22} strings={A:29282d29282d29282d29282d29282d,B:}\nstep 47: n=0 notes=2 split=- trials=0 in=22 out=65 state=running next=10 held=[] numbers={N:0,M:9999,I:22} strings={A:29282d29282d29282d29282d29282d,B:}\nstep 48: n=0 notes=0 split=0;0,0 trials=2 in=22 out=65 state=running next=11 held=[] numbers={N:0,M:9999,I:22} strings={A:29282d29282d29282d29282d29282d,B:2d28292d28292d28292d28292d28292d28292d28292d28292d28292d2829}\nstep 49: n=0 notes=0 split=- trials=0 in=26 out=65 state=running next=12 held=[] numbers={N:0,M:9999,I:22} strings={A:29282d29282d29282d29282d29282d,B:414130}\nstep 50: n=0 notes=0 split=0; trials=0 in=26 out=65 state=running next=16 held=[] numbers={N:0,M:9999,I:22} strings={A:29282d29282d29282d29282d29282d29282d,B:414130}\nstep 51: n=0 notes=0 split=- trials=0 in=26 out=78 state=running next=17 held=[] numbers={N:0,M:9999,I:22} strings={A:29282d29282d29282d29282d29282d29282d,B:414130}\nstep 52: n=0 notes=0 split=- trials=0 in=26 out=78 state=running next=18 held=[] numbers={N:0,M:9999,I:25} strings={A:29282d29282d29282d29282d29282d29282d,B:414130}\nstep 53: n=0 notes=0 split=- trials=0 in=26 out=78 state=running next=19 held=[] numbers={N:0,M:9999,I:25} strings={A:29282d29282d29282d29282d29282d29282d,B:414130}\nstep 54: n=0 notes=0 split=- trials=2 in=26 out=78 state=running next=20 held=[] numbers={N:0,M:9999,I:25} strings={A:29282d29282d29282d29282d29282d29282d,B:414130}\nstep 55: n=0 notes=0 split=- trials=18 in=26 out=78 state=running next=9 held=[] numbers={N:0,M:9999,I:25} strings={A:29282d29282d29282d29282d29282d29282d,B:}\nstep 56: n=0 notes=2 split=- trials=0 in=26 out=78 state=running next=10 held=[] numbers={N:0,M:11676,I:25} strings={A:29282d29282d29282d29282d29282d29282d,B:}\nstep 57: n=0 notes=0 split=0;0,0 trials=2 in=26 out=78 state=running next=11 held=[] numbers={N:0,M:11676,I:25} strings={A:29282d29282d29282d29282d29282d29282d,B:2d28292d28292d28292d28292d28292d28292d28292d28292d28292d28292d28292d2829}\nstep 58: n=0 notes=0 split=- trials=0 in=30 out=78 state=running next=12 held=[] numbers={N:0,M:11676,I:25} strings={A:29282d29282d29282d29282d29282d29282d,B:202d42}\nstep 59: n=0 notes=0 split=0; trials=0 in=30 out=78 state=running next=16 held=[] numbers={N:0,M:11676,I:25} strings={A:29282d29282d29282d29282d29282d29282d29282d,B:202d42}\nstep 60: n=0 notes=0 split=- trials=0 in=30 out=91 state=running next=17 held=[] numbers={N:0,M:11676,I:25} strings={A:29282d29282d29282d29282d29282d29282d29282d,B:202d42}\n" ≡ true
unfolding agrees
v122 = refl

v123 : agrees "         PROGRAM LOTS\n         NUMB ER N, M  ,I\n         PRINT(61) \n         IF(LENGTH(F)=7)/L1\n X9      READ(60) LI NE$5/,X9\n         BACKSCAN   LIN E[G  $ 6 ,(F)]                                  SEQ95394\n         S1=\"AA\",B\n         I=2\n* COMMENT 0\n         GO TO LOOP\nLOOP     IF(+7<=LENGTH(  A))/LO OP, L1\n         ROUTINE R1\nL3       B=\"\"\",\"A \"                                                     SEQ89424\n        CIF(NUMERIC(F\n         $1))/L3                                                        SEQ49251\n         N=(-N*(2542)+N)\n         WRITE (  61)   A$2,F$6,F\n         ENDROUTINE\n         ROUTI  NE R2\nL2       SCAN TEXTLONG[(LINE),\"(\",(G),TEXTLONG$M,\"B \"]/DONE\nDONE     ENDROUTINE                                                     SEQ66654\n        *SCA N LINE[(F\n        *$1),LINE$ 6,T\n        *EXTLON G,(C) \n        +,\",1,2A\", \"3\"\n        X,(A  )]=\"211A\n        11 12A 2A\",C$M\n           /,X9\n L1      END\n" "\nB,2B00A1B+- \n+,+-A0100+,A1A+,A+1-- B0  -2 ++B21AB+-BA\n1AAA A BA A \nA BA0AA2B B1A,,AB2AB, B2,2020A2+012-1,A1\n01-A022-- 11\n+21\n21-A0 1+1A-1A2+,1A 2,1,- 22A1B 2A-A-,AAA\n" "step 1: n=0 notes=0 split=- trials=0 in=0 out=0 state=running next=4 held=[] numbers={N:0,M:0,I:0} strings={F:,LINE:,G:,S1:,B:,A:,TEXTLONG:,C:}\nstep 2: n=0 notes=0 split=- trials=0 in=0 out=0 state=running next=5 held=[] numbers={N:0,M:0,I:0} strings={F:,LINE:,G:,S1:,B:,A:,TEXTLONG:,C:}\nstep 3: n=0 notes=0 split=- trials=0 in=1 out=0 state=running next=6 held=[] numbers={N:0,M:0,I:0} strings={F:,LINE:,G:,S1:,B:,A:,TEXTLONG:,C:}\nstep 4: n=0 notes=0 split=0;0,0 trials=1 in=1 out=0 state=running next=7 held=[] numbers={N:0,M:0,I:0} strings={F:,LINE:,G:,S1:,B:,A:,TEXTLONG:,C:}\nstep 5: n=0 notes=0 split=- trials=0 in=1 out=0 state=running next=8 held=[] numbers={N:0,M:0,I:0} strings={F:,LINE:,G:,S1:4141,B:,A:,TEXTLONG:,C:}\nstep 6: n=0 notes=0 split=- trials=0 in=1 out=0 state=running next=10 held=[] numbers={N:0,M:0,I:2} strings={F:,LINE:,G:,S1:4141,B:,A:,TEXTLONG:,C:}\nstep 7: n=0 notes=0 split=- trials=0 in=1 out=0 state=running next=11 held=[] numbers={N:0,M:0,I:2} strings={F:,LINE:,G:,S1:4141,B:,A:,TEXTLONG:,C:}\nstep 8: n=0 notes=0 split=- trials=0 in=1 out=0 state=running next=29 held=[] numbers={N:0,M:0,I:2} strings={F:,LINE:,G:,S1:4141,B:,A:,TEXTLONG:,C:}\nstep 9: n=0 notes=0 split=- trials=0 in=1 out=0 state=finished next=29 held=[] numbers={N:0,M:0,I:2} strings={F:,LINE:,G:,S1:4141,B:,A:,TEXTLONG:,C:}\n" ≡ true
unfolding agrees
v123 = refl

v124 : agrees "         PROGR AM TEST1                                                 SEQ42664\n         NUMBER N\n         ROUTINE R3\nX9       LINE$6=B$2\nL2       BACKSCAN C[LINE,\"A B\"]=TEXTLONG,C,F/L2\nLOOP     RETURN\n         ENDROUTINE\n         ROUTINE R2\n L1      ENDROUTINE\n         F=\"A   ,,A ,2BB\"\n         ROUTINE  R1 \n\nL3       ENDROUTINE\n         GOTO DONE\n         SCAN C[STRING(-8,N),\"AA\",(B)]\n         S1=\"2\",\"AB, B\"\n         A=S1$N,\"*\",B,A\nDONE     EXECUTE R1\n         END\n" "+11\n" "step 1: n=0 notes=0 split=- trials=0 in=0 out=0 state=running next=8 held=[] numbers={N:0} strings={LINE:,B:,C:,TEXTLONG:,F:,S1:,A:}\nstep 2: n=0 notes=0 split=- trials=0 in=0 out=0 state=running next=10 held=[] numbers={N:0} strings={LINE:,B:,C:,TEXTLONG:,F:,S1:,A:}\nstep 3: n=0 notes=0 split=- trials=0 in=0 out=0 state=running next=11 held=[] numbers={N:0} strings={LINE:,B:,C:,TEXTLONG:,F:412020202c2c41202c324242,S1:,A:}\nstep 4: n=0 notes=0 split=- trials=0 in=0 out=0 state=running next=14 held=[] numbers={N:0} strings={LINE:,B:,C:,TEXTLONG:,F:412020202c2c41202c324242,S1:,A:}\nstep 5: n=0 notes=0 split=- trials=0 in=0 out=0 state=running next=18 held=[] numbers={N:0} strings={LINE:,B:,C:,TEXTLONG:,F:412020202c2c41202c324242,S1:,A:}\nstep 6: n=0 notes=0 split=- trials=0 in=0 out=0 state=running next=13 held=[19] numbers={N:0} strings={LINE:,B:,C:,TEXTLONG:,F:412020202c2c41202c324242,S1:,A:}\nstep 7: n=0 notes=0 split=- trials=0 in=0 out=0 state=running next=19 held=[] numbers={N:0} strings={LINE:,B:,C:,TEXTLONG:,F:412020202c2c41202c324242,S1:,A:}\nstep 8: n=0 notes=0 split=- trials=0 in=0 out=0 state=finished next=19 held=[] numbers={N:0} strings={LINE:,B:,C:,TEXTLONG:,F:412020202c2c41202c324242,S1:,A:}\n" ≡ true
unfolding agrees
v124 = refl

v125 : agrees "         PROGRAM LOTS\n         NUMBE  R N,M\nL1       GOTO L3\nL3       IF(NUMERIC(B$5))/,L3\n* COMMENT 9\n DONE    ROUTINE R1\nX9       M=M+N\n        +IF(NUMBER(C$6)<1)/LO\n         OP                                                             SEQ27249\n LOOP    B=S1$M\n         ENDROU TINE\nL2       END\n" "+12,   1+,+ABA2,A-2-20AA-2B10- ,11A-B12A\n1AA,BA\nB+02BA B2A++2AA-B2,2B +022++,1B0A  2+ AB\n -0\n A-1A+222,B1\n+2-2A-1101+A\nA2 - +0- A,BBA  BA0  0B-BA 0  A0,AA2, 2+\n,-A011  +112\n" "step 1: n=0 notes=0 split=- trials=0 in=0 out=0 state=running next=4 held=[] numbers={N:0,M:0} strings={B:,C:,S1:}\nstep 2: n=0 notes=0 split=- trials=0 in=0 out=0 state=running next=4 held=[] numbers={N:0,M:0} strings={B:,C:,S1:}\nstep 3: n=0 notes=0 split=- trials=0 in=0 out=0 state=running next=4 held=[] numbers={N:0,M:0} strings={B:,C:,S1:}\nstep 4: n=0 notes=0 split=- trials=0 in=0 out=0 state=running next=4 held=[] numbers={N:0,M:0} strings={B:,C:,S1:}\nstep 5: n=0 notes=0 split=- trials=0 in=0 out=0 state=running next=4 held=[] numbers={N:0,M:0} strings={B:,C:,S1:}\nstep 6: n=0 notes=0 split=- trials=0 in=0 out=0 state=running next=4 held=[] numbers={N:0,M:0} strings={B:,C:,S1:}\nstep 7: n=0 notes=0 split=- trials=0 in=0 out=0 state=running next=4 held=[] numbers={N:0,M:0} strings={B:,C:,S1:}\nstep 8: n=0 notes=0 split=- trials=0 in=0 out=0 state=running next=4 held=[] numbers={N:0,M:0} strings={B:,C:,S1:}\nstep 9: n=0 notes=0 split=- trials=0 in=0 out=0 state=running next=4 held=[] numbers={N:0,M:0} strings={B:,C:,S1:}\nstep 10: n=0 notes=0 split=- trials=0 in=0 out=0 state=running next=4 held=[] numbers={N:0,M:0} strings={B:,C:,S1:}\nstep 11: n=0 notes=0 split=- trials=0 in=0 out=0 state=running next=4 held=[] numbers={N:0,M:0} strings={B:,C:,S1:}\nstep 12: n=0 notes=0 split=- trials=0 in=0 out=0 state=running next=4 held=[] numbers={N:0,M:0} strings={B:,C:,S1:}\nstep 13: n=0 notes=0 split=- trials=0 in=0 out=0 state=running next=4 held=[] numbers={N:0,M:0} strings={B:,C:,S1:}\nstep 14: n=0 notes=0 split=- trials=0 in=0 out=0 state=running next=4 held=[] numbers={N:0,M:0} strings={B:,C:,S1:}\nstep 15: n=0 notes=0 split=- trials=0 in=0 out=0 state=running next=4 held=[] numbers={N:0,M:0} strings={B:,C:,S1:}\nstep 16: n=0 notes=0 split=- trials=0 in=0 out=0 state=running next=4 held=[] numbers={N:0,M:0} strings={B:,C:,S1:}\nstep 17: n=0 notes=0 split=- trials=0 in=0 out=0 state=running next=4 held=[] numbers={N:0,M:0} strings={B:,C:,S1:}\nstep 18: n=0 notes=0 split=- trials=0 in=0 out=0 state=running next=4 held=[] numbers={N:0,M:0} strings={B:,C:,S1:}\nstep 19: n=0 notes=0 split=- trials=0 in=0 out=0 state=running next=4 held=[] numbers={N:0,M:0} strings={B:,C:,S1:}\nstep 20: n=0 notes=0 split=- trials=0 in=0 out=0 state=running next=4 held=[] numbers={N:0,M:0} strings={B:,C:,S1:}\nstep 21: n=0 notes=0 split=- trials=0 in=0 out=0 state=running next=4 held=[] numbers={N:0,M:0} strings={B:,C:,S1:}\nstep 22: n=0 notes=0 split=- trials=0 in=0 out=0 state=running next=4 held=[] numbers={N:0,M:0} strings={B:,C:,S1:}\nstep 23: n=0 notes=0 split=- trials=0 in=0 out=0 state=running next=4 held=[] numbers={N:0,M:0} strings={B:,C:,S1:}\nstep 24: n=0 notes=0 split=- trials=0 in=0 out=0 state=running next=4 held=[] numbers={N:0,M:0} strings={B:,C:,S1:}\nstep 25: n=0 notes=0 split=- trials=0 in=0 out=0 state=running next=4 held=[] numbers={N:0,M:0} strings={B:,C:,S1:}\nstep 26: n=0 notes=0 split=- trials=0 in=0 out=0 state=running next=4 held=[] numbers={N:0,M:0} strings={B:,C:,S1:}\nstep 27: n=0 notes=0 split=- trials=0 in=0 out=0 state=running next=4 held=[] numbers={N:0,M:0} strings={B:,C:,S1:}\nstep 28: n=0 notes=0 split=- trials=0 in=0 out=0 state=running next=4 held=[] numbers={N:0,M:0} strings={B:,C:,S1:}\nstep 29: n=0 notes=0 split=- trials=0 in=0 out=0 state=running next=4 held=[] numbers={N:0,M:0} strings={B:,C:,S1:}\nstep 30: n=0 notes=0 split=- trials=0 in=0 out=0 state=running next=4 held=[] numbers={N:0,M:0} strings={B:,C:,S1:}\nstep 31: n=0 notes=0 split=- trials=0 in=0 out=0 state=running next=4 held=[] numbers={N:0,M:0} strings={B:,C:,S1:}\nstep 32: n=0 notes=0 split=- trials=0 in=0 out=0 state=running next=4 held=[] numbers={N:0,M:0} strings={B:,C:,S1:}\nstep 33: n=0 notes=0 split=- trials=0 in=0 out=0 state=running next=4 held=[] numbers={N:0,M:0} strings={B:,C:,S1:}\nstep 34: n=0 notes=0 split=- trials=0 in=0 out=0 state=running next=4 held=[] numbers={N:0,M:0} strings={B:,C:,S1:}\nstep 35: n=0 notes=0 split=- trials=0 in=0 out=0 state=running next=4 held=[] numbers={N:0,M:0} strings={B:,C:,S1:}\nstep 36: n=0 notes=0 split=- trials=0 in=0 out=0 state=running next=4 held=[] numbers={N:0,M:0} strings={B:,C:,S1:}\nstep 37: n=0 notes=0 split=- trials=0 in=0 out=0 state=running next=4 held=[] numbers={N:0,M:0} strings={B:,C:,S1:}\nstep 38: n=0 notes=0 split=- trials=0 in=0 out=0 state=running next=4 held=[] numbers={N:0,M:0} strings={B:,C:,S1:}\nstep 39: n=0 notes=0 split=- trials=0 in=0 out=0 state=running next=4 held=[] numbers={N:0,M:0} strings={B:,C:,S1:}\nstep 40: n=0 notes=0 split=- trials=0 in=0 out=0 state=running next=4 held=[] numbers={N:0,M:0} strings={B:,C:,S1:}\nstep 41: n=0 notes=0 split=- trials=0 in=0 out=0 state=running next=4 held=[] numbers={N:0,M:0} strings={B:,C:,S1:}\nstep 42: n=0 notes=0 split=- trials=0 in=0 out=0 state=running next=4 held=[] numbers={N:0,M:0} strings={B:,C:,S1:}\nstep 43: n=0 notes=0 split=- trials=0 in=0 out=0 state=running next=4 held=[] numbers={N:0,M:0} strings={B:,C:,S1:}\nstep 44: n=0 notes=0 split=- trials=0 in=0 out=0 state=running next=4 held=[] numbers={N:0,M:0} strings={B:,C:,S1:}\nstep 45: n=0 notes=0 split=- trials=0 in=0 out=0 state=running next=4 held=[] numbers={N:0,M:0} strings={B:,C:,S1:}\nstep 46: n=0 notes=0 split=- trials=0 in=0 out=0 state=running next=4 held=[] numbers={N:0,M:0} strings={B:,C:,S1:}\nstep 47: n=0 notes=0 split=- trials=0 in=0 out=0 state=running next=4 held=[] numbers={N:0,M:0} strings={B:,C:,S1:}\nstep 48: n=0 notes=0 split=- trials=0 in=0 out=0 state=running next=4 held=[] numbers={N:0,M:0} strings={B:,C:,S1:}\nstep 49: n=0 notes=0 split=- trials=0 in=0 out=0 state=running next=4 held=[] numbers={N:0,M:0} strings={B:,C:,S1:}\nstep 50: n=0 notes=0 split=- trials=0 in=0 out=0 state=running next=4 held=[] numbers={N:0,M:0} strings={B:,C:,S1:}\nstep 51: n=0 notes=0 split=- trials=0 in=0 out=0 state=running next=4 held=[] numbers={N:0,M:0} strings={B:,C:,S1:}\nstep 52: n=0 notes=0 split=- trials=0 in=0 out=0 state=running next=4 held=[] numbers={N:0,M:0} strings={B:,C:,S1:}\nstep 53: n=0 notes=0 split=- trials=0 in=0 out=0 state=running next=4 held=[] numbers={N:0,M:0} strings={B:,C:,S1:}\nstep 54: n=0 notes=0 split=- trials=0 in=0 out=0 state=running next=4 held=[] numbers={N:0,M:0} strings={B:,C:,S1:}\nstep 55: n=0 notes=0 split=- trials=0 in=0 out=0 state=running next=4 held=[] numbers={N:0,M:0} strings={B:,C:,S1:}\nstep 56: n=0 notes=0 split=- trials=0 in=0 out=0 state=running next=4 held=[] numbers={N:0,M:0} strings={B:,C:,S1:}\nstep 57: n=0 notes=0 split=- trials=0 in=0 out=0 state=running next=4 held=[] numbers={N:0,M:0} strings={B:,C:,S1:}\nstep 58: n=0 notes=0 split=- trials=0 in=0 out=0 state=running next=4 held=[] numbers={N:0,M:0} strings={B:,C:,S1:}\nstep 59: n=0 notes=0 split=- trials=0 in=0 out=0 state=running next=4 held=[] numbers={N:0,M:0} strings={B:,C:,S1:}\nstep 60: n=0 notes=0 split=- trials=0 in=0 out=0 state=running next=4 held=[] numbers={N:0,M:0} strings={B:,C:,S1:}\n" ≡ true
unfolding agrees
v125 = refl

v126 : agrees "         PROGRAM P\n START   NUMBE R STRING,M,I,K9,C  OUNT\nL3       WRITE(61 ) \"B2\",A$0\n         M=(I)\nDONE     ROUT  I NE R1\n         BACKSCAN A[]=STRING(COUNT),NUMBER,NUMBER$0\n         WRITE(61) NUMBER\n         R EA D NUMB ER\n* COMMENT 2\n L2      ENDROUTINE\n         READ NUMBER/L3,X9\nLOOP     A =A$C  OUNT,NUMBER  ,\" 2\"\n                                                                        SEQ\nL1       NUMBER =  A\nX9       END\n" "" "step 1: n=0 notes=0 split=- trials=0 in=0 out=3 state=running next=4 held=[] numbers={STRING:0,M:0,I:0,K9:0,COUNT:0} strings={A:,NUMBER:}\nstep 2: n=0 notes=0 split=- trials=0 in=0 out=3 state=running next=5 held=[] numbers={STRING:0,M:0,I:0,K9:0,COUNT:0} strings={A:,NUMBER:}\nstep 3: n=0 notes=0 split=- trials=0 in=0 out=3 state=running next=11 held=[] numbers={STRING:0,M:0,I:0,K9:0,COUNT:0} strings={A:,NUMBER:}\nstep 4: n=0 notes=0 split=- trials=0 in=0 out=3 state=running next=15 held=[] numbers={STRING:0,M:0,I:0,K9:0,COUNT:0} strings={A:,NUMBER:}\nstep 5: n=0 notes=0 split=- trials=0 in=0 out=3 state=finished next=15 held=[] numbers={STRING:0,M:0,I:0,K9:0,COUNT:0} strings={A:,NUMBER:}\n" ≡ true
unfolding agrees
v126 = refl

v127 : agrees "         PROGRAM LOTS\n         NUMBER N,M\n         BACKSCAN A$M[(F),\"\"\",(F)]/L3                                   SEQ94979\nL3       S  CAN C$ 2[F,C]=LINE,STRING(3,  N),STRING(2,N),\"2\"/L3  ,L2    SEQ61963\n         ROU  TI  NE R2\nL1       IF(-8>NUMBER(B))/LOOP,LOOP\nLOOP     GO TO L1\n         E NDROUTINE                                                    SEQ92338\n L2      ROUTINE R1\nDONE     READ S1\n         TEXTLONG$M=\n         BACKSCAN S1[STRING(M,M),\",\"]/DONE,DONE\n         WRITE LINE$2\n         ENDROUTINE\n         C=\nX9       END\n" "\n --B2A ++,+A+ +-AA,A-, 1A, 01+A0+0AA-+21\n\n 2++0AA-2-,-A-A1BA-AAAAAAB2AA-,-,, 1-1+A\n+,B1+A\n,,,\n201\n-A \n" "step 1: n=0 notes=0 split=- trials=1 in=0 out=0 state=running next=4 held=[] numbers={N:0,M:0} strings={A:,F:,C:,LINE:,B:,S1:,TEXTLONG:}\nstep 2: n=0 notes=0 split=0;0,0 trials=2 in=0 out=0 state=running next=4 held=[] numbers={N:0,M:0} strings={A:,F:,C:303030303032,LINE:,B:,S1:,TEXTLONG:}\nstep 3: n=0 notes=0 split=- trials=2 in=0 out=0 state=running next=9 held=[] numbers={N:0,M:0} strings={A:,F:,C:303030303032,LINE:,B:,S1:,TEXTLONG:}\nstep 4: n=0 notes=0 split=- trials=0 in=0 out=0 state=running next=15 held=[] numbers={N:0,M:0} strings={A:,F:,C:303030303032,LINE:,B:,S1:,TEXTLONG:}\nstep 5: n=0 notes=0 split=- trials=0 in=0 out=0 state=running next=16 held=[] numbers={N:0,M:0} strings={A:,F:,C:,LINE:,B:,S1:,TEXTLONG:}\nstep 6: n=0 notes=0 split=- trials=0 in=0 out=0 state=finished next=16 held=[] numbers={N:0,M:0} strings={A:,F:,C:,LINE:,B:,S1:,TEXTLONG:}\n" ≡ true
unfolding agrees
v127 = refl

v128 : agrees "         PROGRAM LOTS\n         NUMBER N,M,I,K9\n* COMMENT 0\nL2       EXECUTE R1\n LOOP    READ(60) A$4/L3,L3\n L3     *WRITE A,STRING(\n        +N,I),\" \",STRING\n         (N,M)\n         ROUTINE R1\nL1       B =B\nX9       PRINT \"  \"\nDONE     WRITE \"12\",STRING(I),A$2\n         PRINT A$0\n         E  NDROU T  INE\n         END\n" "1,12A0,2A1+2+ ,B+   1A-0110--2+BA2B0AAA0\n0+- ,B\nB\n" "step 1: n=0 notes=0 split=- trials=0 in=0 out=0 state=running next=10 held=[5] numbers={N:0,M:0,I:0,K9:0} strings={A:,B:}\nstep 2: n=0 notes=0 split=- trials=0 in=0 out=0 state=running next=11 held=[5] numbers={N:0,M:0,I:0,K9:0} strings={A:,B:}\nstep 3: n=0 notes=0 split=- trials=0 in=0 out=3 state=running next=12 held=[5] numbers={N:0,M:0,I:0,K9:0} strings={A:,B:}\nstep 4: n=0 notes=0 split=- trials=0 in=0 out=7 state=running next=13 held=[5] numbers={N:0,M:0,I:0,K9:0} strings={A:,B:}\nstep 5: n=0 notes=0 split=- trials=0 in=0 out=7 state=running next=14 held=[5] numbers={N:0,M:0,I:0,K9:0} strings={A:,B:}\nstep 6: n=0 notes=0 split=- trials=0 in=0 out=7 state=running next=5 held=[] numbers={N:0,M:0,I:0,K9:0} strings={A:,B:}\nstep 7: n=0 notes=1 split=- trials=0 in=41 out=7 state=running next=6 held=[] numbers={N:0,M:0,I:0,K9:0} strings={A:312c3132,B:}\nstep 8: n=0 notes=0 split=- trials=0 in=41 out=15 state=running next=9 held=[] numbers={N:0,M:0,I:0,K9:0} strings={A:312c3132,B:}\nstep 9: n=0 notes=0 split=- trials=0 in=41 out=15 state=running next=15 held=[] numbers={N:0,M:0,I:0,K9:0} strings={A:312c3132,B:}\nstep 10: n=0 notes=0 split=- trials=0 in=41 out=15 state=finished next=15 held=[] numbers={N:0,M:0,I:0,K9:0} strings={A:312c3132,B:}\n" ≡ true
unfolding agrees
v128 = refl
