-- Decks with their inputs and traces. Assumes nothing.
use Rattle.std.specs.Prelude.{true, ◌≡◌, refl}
use Rattle.vectors.specs.Trace.{agrees, agrees_whole}

v009 : agrees "         PROGRAM TEST1                                                  SEQ19231\n         NU  MBE R N,M,I ,K 9\n         WRITE \"A\"\n         READ  A$6  /  ,  X9\nLOOP     N=LENGTH(A)\n         K9=N\n L2      A=STRING(0,M),A,B\n         R OUTINE   R1\n         WR  ITE \"\"\",STRING(N),ST  R I  NG(9,K9),B\nDONE     I=2478/I\nL3      1READ(60\n        1) A/,  \n         DONE\n         ENDROUTINE\n        *SCAN B[\"*\n        X\",A$1]/LO\n         OP\nL1       IF(K9<=-7)/X9,L1\n         M=-0024\n         READ C/L2,L1\nX9       END\n" "" "step 1: n=0 notes=0 split=- trials=0 in=0 out=2 state=running next=4 held=[] numbers={N:0,M:0,I:0,K9:0} strings={A:,B:,C:}\nstep 2: n=0 notes=0 split=- trials=0 in=0 out=2 state=running next=21 held=[] numbers={N:0,M:0,I:0,K9:0} strings={A:,B:,C:}\nstep 3: n=0 notes=0 split=- trials=0 in=0 out=2 state=finished next=21 held=[] numbers={N:0,M:0,I:0,K9:0} strings={A:,B:,C:}\n" ≡ true
unfolding agrees
v009 = refl

v010 : agrees "         PROGRAM P\n         NUMBER N,M\n* COMMENT 0\nLOOP     ROUTINE R1\n         A=\"BA,,1\"\n         GOTO  L2\n         IF(LENGTH(A)>8)/,L2\n L2      ENDROUTINE\nL3       READ B/,L3\n         EXECUTE R1\nL1       M=6+6665976-NUMBER(B)*N\n         IF(1<>M)/LOOP,X9                                               SEQ63522\n        CWRITE(61) STRING(\n         M,N),STRING(5,M)                                               SEQ17368\n         SCAN  S1[STR  I NG (0,M)]=S1/,X  9\n         N=132\n         IF(NUME RI  C(C))/L3\n         PRINT(61) \"1BB1A2BB AA,\",A$6,STRING(0,M),B$4\n         ROUTI  NE R2\nDONE     ENDROUTINE\n         B =B,S TRING (3,N),S1$N \nX9       B=\"1B\"\n         C=\"A222A  1ABB,\",STRING(0,N),\"30-11\"                           SEQ96285\n         END\n" ",0,B0A012AB,\n" "step 1: n=0 notes=0 split=- trials=0 in=0 out=0 state=running next=9 held=[] numbers={N:0,M:0} strings={A:,B:,S1:,C:}\nstep 2: n=0 notes=0 split=- trials=0 in=13 out=0 state=running next=10 held=[] numbers={N:0,M:0} strings={A:,B:2c302c42304130313241422c,S1:,C:}\nstep 3: n=0 notes=0 split=- trials=0 in=13 out=0 state=running next=5 held=[11] numbers={N:0,M:0} strings={A:,B:2c302c42304130313241422c,S1:,C:}\nstep 4: n=0 notes=0 split=- trials=0 in=13 out=0 state=running next=6 held=[11] numbers={N:0,M:0} strings={A:42412c2c31,B:2c302c42304130313241422c,S1:,C:}\nstep 5: n=0 notes=0 split=- trials=0 in=13 out=0 state=running next=8 held=[11] numbers={N:0,M:0} strings={A:42412c2c31,B:2c302c42304130313241422c,S1:,C:}\nstep 6: n=0 notes=0 split=- trials=0 in=13 out=0 state=running next=11 held=[] numbers={N:0,M:0} strings={A:42412c2c31,B:2c302c42304130313241422c,S1:,C:}\nstep 7: n=0 notes=1 split=- trials=0 in=13 out=0 state=running next=12 held=[] numbers={N:0,M:6665982} strings={A:42412c2c31,B:2c302c42304130313241422c,S1:,C:}\nstep 8: n=0 notes=0 split=- trials=0 in=13 out=0 state=running next=4 held=[] numbers={N:0,M:6665982} strings={A:42412c2c31,B:2c302c42304130313241422c,S1:,C:}\nstep 9: n=0 notes=0 split=- trials=0 in=13 out=0 state=running next=9 held=[] numbers={N:0,M:6665982} strings={A:42412c2c31,B:2c302c42304130313241422c,S1:,C:}\nstep 10: n=0 notes=0 split=- trials=0 in=13 out=0 state=running next=9 held=[] numbers={N:0,M:6665982} strings={A:42412c2c31,B:2c302c42304130313241422c,S1:,C:}\nstep 11: n=0 notes=0 split=- trials=0 in=13 out=0 state=running next=9 held=[] numbers={N:0,M:6665982} strings={A:42412c2c31,B:2c302c42304130313241422c,S1:,C:}\nstep 12: n=0 notes=0 split=- trials=0 in=13 out=0 state=running next=9 held=[] numbers={N:0,M:6665982} strings={A:42412c2c31,B:2c302c42304130313241422c,S1:,C:}\nstep 13: n=0 notes=0 split=- trials=0 in=13 out=0 state=running next=9 held=[] numbers={N:0,M:6665982} strings={A:42412c2c31,B:2c302c42304130313241422c,S1:,C:}\nstep 14: n=0 notes=0 split=- trials=0 in=13 out=0 state=running next=9 held=[] numbers={N:0,M:6665982} strings={A:42412c2c31,B:2c302c42304130313241422c,S1:,C:}\nstep 15: n=0 notes=0 split=- trials=0 in=13 out=0 state=running next=9 held=[] numbers={N:0,M:6665982} strings={A:42412c2c31,B:2c302c42304130313241422c,S1:,C:}\nstep 16: n=0 notes=0 split=- trials=0 in=13 out=0 state=running next=9 held=[] numbers={N:0,M:6665982} strings={A:42412c2c31,B:2c302c42304130313241422c,S1:,C:}\nstep 17: n=0 notes=0 split=- trials=0 in=13 out=0 state=running next=9 held=[] numbers={N:0,M:6665982} strings={A:42412c2c31,B:2c302c42304130313241422c,S1:,C:}\nstep 18: n=0 notes=0 split=- trials=0 in=13 out=0 state=running next=9 held=[] numbers={N:0,M:6665982} strings={A:42412c2c31,B:2c302c42304130313241422c,S1:,C:}\nstep 19: n=0 notes=0 split=- trials=0 in=13 out=0 state=running next=9 held=[] numbers={N:0,M:6665982} strings={A:42412c2c31,B:2c302c42304130313241422c,S1:,C:}\nstep 20: n=0 notes=0 split=- trials=0 in=13 out=0 state=running next=9 held=[] numbers={N:0,M:6665982} strings={A:42412c2c31,B:2c302c42304130313241422c,S1:,C:}\nstep 21: n=0 notes=0 split=- trials=0 in=13 out=0 state=running next=9 held=[] numbers={N:0,M:6665982} strings={A:42412c2c31,B:2c302c42304130313241422c,S1:,C:}\nstep 22: n=0 notes=0 split=- trials=0 in=13 out=0 state=running next=9 held=[] numbers={N:0,M:6665982} strings={A:42412c2c31,B:2c302c42304130313241422c,S1:,C:}\nstep 23: n=0 notes=0 split=- trials=0 in=13 out=0 state=running next=9 held=[] numbers={N:0,M:6665982} strings={A:42412c2c31,B:2c302c42304130313241422c,S1:,C:}\nstep 24: n=0 notes=0 split=- trials=0 in=13 out=0 state=running next=9 held=[] numbers={N:0,M:6665982} strings={A:42412c2c31,B:2c302c42304130313241422c,S1:,C:}\nstep 25: n=0 notes=0 split=- trials=0 in=13 out=0 state=running next=9 held=[] numbers={N:0,M:6665982} strings={A:42412c2c31,B:2c302c42304130313241422c,S1:,C:}\nstep 26: n=0 notes=0 split=- trials=0 in=13 out=0 state=running next=9 held=[] numbers={N:0,M:6665982} strings={A:42412c2c31,B:2c302c42304130313241422c,S1:,C:}\nstep 27: n=0 notes=0 split=- trials=0 in=13 out=0 state=running next=9 held=[] numbers={N:0,M:6665982} strings={A:42412c2c31,B:2c302c42304130313241422c,S1:,C:}\nstep 28: n=0 notes=0 split=- trials=0 in=13 out=0 state=running next=9 held=[] numbers={N:0,M:6665982} strings={A:42412c2c31,B:2c302c42304130313241422c,S1:,C:}\nstep 29: n=0 notes=0 split=- trials=0 in=13 out=0 state=running next=9 held=[] numbers={N:0,M:6665982} strings={A:42412c2c31,B:2c302c42304130313241422c,S1:,C:}\nstep 30: n=0 notes=0 split=- trials=0 in=13 out=0 state=running next=9 held=[] numbers={N:0,M:6665982} strings={A:42412c2c31,B:2c302c42304130313241422c,S1:,C:}\nstep 31: n=0 notes=0 split=- trials=0 in=13 out=0 state=running next=9 held=[] numbers={N:0,M:6665982} strings={A:42412c2c31,B:2c302c42304130313241422c,S1:,C:}\nstep 32: n=0 notes=0 split=- trials=0 in=13 out=0 state=running next=9 held=[] numbers={N:0,M:6665982} strings={A:42412c2c31,B:2c302c42304130313241422c,S1:,C:}\nstep 33: n=0 notes=0 split=- trials=0 in=13 out=0 state=running next=9 held=[] numbers={N:0,M:6665982} strings={A:42412c2c31,B:2c302c42304130313241422c,S1:,C:}\nstep 34: n=0 notes=0 split=- trials=0 in=13 out=0 state=running next=9 held=[] numbers={N:0,M:6665982} strings={A:42412c2c31,B:2c302c42304130313241422c,S1:,C:}\nstep 35: n=0 notes=0 split=- trials=0 in=13 out=0 state=running next=9 held=[] numbers={N:0,M:6665982} strings={A:42412c2c31,B:2c302c42304130313241422c,S1:,C:}\nstep 36: n=0 notes=0 split=- trials=0 in=13 out=0 state=running next=9 held=[] numbers={N:0,M:6665982} strings={A:42412c2c31,B:2c302c42304130313241422c,S1:,C:}\nstep 37: n=0 notes=0 split=- trials=0 in=13 out=0 state=running next=9 held=[] numbers={N:0,M:6665982} strings={A:42412c2c31,B:2c302c42304130313241422c,S1:,C:}\nstep 38: n=0 notes=0 split=- trials=0 in=13 out=0 state=running next=9 held=[] numbers={N:0,M:6665982} strings={A:42412c2c31,B:2c302c42304130313241422c,S1:,C:}\nstep 39: n=0 notes=0 split=- trials=0 in=13 out=0 state=running next=9 held=[] numbers={N:0,M:6665982} strings={A:42412c2c31,B:2c302c42304130313241422c,S1:,C:}\nstep 40: n=0 notes=0 split=- trials=0 in=13 out=0 state=running next=9 held=[] numbers={N:0,M:6665982} strings={A:42412c2c31,B:2c302c42304130313241422c,S1:,C:}\nstep 41: n=0 notes=0 split=- trials=0 in=13 out=0 state=running next=9 held=[] numbers={N:0,M:6665982} strings={A:42412c2c31,B:2c302c42304130313241422c,S1:,C:}\nstep 42: n=0 notes=0 split=- trials=0 in=13 out=0 state=running next=9 held=[] numbers={N:0,M:6665982} strings={A:42412c2c31,B:2c302c42304130313241422c,S1:,C:}\nstep 43: n=0 notes=0 split=- trials=0 in=13 out=0 state=running next=9 held=[] numbers={N:0,M:6665982} strings={A:42412c2c31,B:2c302c42304130313241422c,S1:,C:}\nstep 44: n=0 notes=0 split=- trials=0 in=13 out=0 state=running next=9 held=[] numbers={N:0,M:6665982} strings={A:42412c2c31,B:2c302c42304130313241422c,S1:,C:}\nstep 45: n=0 notes=0 split=- trials=0 in=13 out=0 state=running next=9 held=[] numbers={N:0,M:6665982} strings={A:42412c2c31,B:2c302c42304130313241422c,S1:,C:}\nstep 46: n=0 notes=0 split=- trials=0 in=13 out=0 state=running next=9 held=[] numbers={N:0,M:6665982} strings={A:42412c2c31,B:2c302c42304130313241422c,S1:,C:}\nstep 47: n=0 notes=0 split=- trials=0 in=13 out=0 state=running next=9 held=[] numbers={N:0,M:6665982} strings={A:42412c2c31,B:2c302c42304130313241422c,S1:,C:}\nstep 48: n=0 notes=0 split=- trials=0 in=13 out=0 state=running next=9 held=[] numbers={N:0,M:6665982} strings={A:42412c2c31,B:2c302c42304130313241422c,S1:,C:}\nstep 49: n=0 notes=0 split=- trials=0 in=13 out=0 state=running next=9 held=[] numbers={N:0,M:6665982} strings={A:42412c2c31,B:2c302c42304130313241422c,S1:,C:}\nstep 50: n=0 notes=0 split=- trials=0 in=13 out=0 state=running next=9 held=[] numbers={N:0,M:6665982} strings={A:42412c2c31,B:2c302c42304130313241422c,S1:,C:}\nstep 51: n=0 notes=0 split=- trials=0 in=13 out=0 state=running next=9 held=[] numbers={N:0,M:6665982} strings={A:42412c2c31,B:2c302c42304130313241422c,S1:,C:}\nstep 52: n=0 notes=0 split=- trials=0 in=13 out=0 state=running next=9 held=[] numbers={N:0,M:6665982} strings={A:42412c2c31,B:2c302c42304130313241422c,S1:,C:}\nstep 53: n=0 notes=0 split=- trials=0 in=13 out=0 state=running next=9 held=[] numbers={N:0,M:6665982} strings={A:42412c2c31,B:2c302c42304130313241422c,S1:,C:}\nstep 54: n=0 notes=0 split=- trials=0 in=13 out=0 state=running next=9 held=[] numbers={N:0,M:6665982} strings={A:42412c2c31,B:2c302c42304130313241422c,S1:,C:}\nstep 55: n=0 notes=0 split=- trials=0 in=13 out=0 state=running next=9 held=[] numbers={N:0,M:6665982} strings={A:42412c2c31,B:2c302c42304130313241422c,S1:,C:}\nstep 56: n=0 notes=0 split=- trials=0 in=13 out=0 state=running next=9 held=[] numbers={N:0,M:6665982} strings={A:42412c2c31,B:2c302c42304130313241422c,S1:,C:}\nstep 57: n=0 notes=0 split=- trials=0 in=13 out=0 state=running next=9 held=[] numbers={N:0,M:6665982} strings={A:42412c2c31,B:2c302c42304130313241422c,S1:,C:}\nstep 58: n=0 notes=0 split=- trials=0 in=13 out=0 state=running next=9 held=[] numbers={N:0,M:6665982} strings={A:42412c2c31,B:2c302c42304130313241422c,S1:,C:}\nstep 59: n=0 notes=0 split=- trials=0 in=13 out=0 state=running next=9 held=[] numbers={N:0,M:6665982} strings={A:42412c2c31,B:2c302c42304130313241422c,S1:,C:}\nstep 60: n=0 notes=0 split=- trials=0 in=13 out=0 state=running next=9 held=[] numbers={N:0,M:6665982} strings={A:42412c2c31,B:2c302c42304130313241422c,S1:,C:}\n" ≡ true
unfolding agrees
v010 = refl

v011 : agrees "         PROGRAM P                                                      SEQ90092\n         NUMBER N,M,I\n         READ A/L  2                                                    SEQ00265\n         B$I=STRING(-3,N)\n L2      S1= B,STRING  (  0,N)\n         SCAN A[]\nDONE     A=\"A1A\",\"12\",A\nX9       READ(60) LINE$2/,DONE\nL3       SCAN LINE[\"\"\",(A)]\n         ROUTINE R1\n                                                                        SEQ\n L1      BACKS CAN S1 [(B  ) ]/L1\n* COMMENT 2\nLOOP     B  $5=\"/2\",  LINE,\"1A\"                                         SEQ17982\n* COMMENT 6\n         ENDROUTINE\n         SCAN A[LINE$2,LINE]=\"A*A\",STRING(7,N),STRING(0,I),B$N          SEQ10864\n         A=STRING(  M)\n         BACKSCAN C$M[(LINE),\"B\"]/L3\n         SCAN C[C]=STRING(I)/L2,L3\n         IF(LENGTH(A)>=+6)/,L3\n        +SCAN B$2[]=\"AA\",STRING(\n         I),STRING(0,M),C\n         END\n" "A1-,,+B 1 B,2,--BB01BA0AAB0+1+A0 10,ABB,\n2\nAAA+1 AA0A-A\nBA2A0,AB0,A1" "step 1: n=0 notes=0 split=- trials=0 in=41 out=0 state=running next=5 held=[] numbers={N:0,M:0,I:0} strings={A:41312d2c2c2b42203120422c322c2d2d42423031424130414142302b312b41302031302c4142422c,B:,S1:,LINE:,C:}\nstep 2: n=0 notes=0 split=- trials=0 in=41 out=0 state=running next=6 held=[] numbers={N:0,M:0,I:0} strings={A:41312d2c2c2b42203120422c322c2d2d42423031424130414142302b312b41302031302c4142422c,B:,S1:30,LINE:,C:}\nstep 3: n=0 notes=0 split=0; trials=0 in=41 out=0 state=running next=7 held=[] numbers={N:0,M:0,I:0} strings={A:41312d2c2c2b42203120422c322c2d2d42423031424130414142302b312b41302031302c4142422c,B:,S1:30,LINE:,C:}\nstep 4: n=0 notes=0 split=- trials=0 in=41 out=0 state=running next=8 held=[] numbers={N:0,M:0,I:0} strings={A:413141313241312d2c2c2b42203120422c322c2d2d42423031424130414142302b312b41302031302c4142422c,B:,S1:30,LINE:,C:}\nstep 5: n=0 notes=0 split=- trials=0 in=43 out=0 state=running next=9 held=[] numbers={N:0,M:0,I:0} strings={A:413141313241312d2c2c2b42203120422c322c2d2d42423031424130414142302b312b41302031302c4142422c,B:,S1:30,LINE:32,C:}\nstep 6: n=0 notes=0 split=- trials=2 in=43 out=0 state=running next=10 held=[] numbers={N:0,M:0,I:0} strings={A:,B:,S1:30,LINE:32,C:}\nstep 7: n=0 notes=0 split=- trials=0 in=43 out=0 state=running next=17 held=[] numbers={N:0,M:0,I:0} strings={A:,B:,S1:30,LINE:32,C:}\nstep 8: n=0 notes=0 split=- trials=1 in=43 out=0 state=running next=18 held=[] numbers={N:0,M:0,I:0} strings={A:,B:,S1:30,LINE:32,C:}\nstep 9: n=0 notes=0 split=- trials=0 in=43 out=0 state=running next=19 held=[] numbers={N:0,M:0,I:0} strings={A:30,B:,S1:30,LINE:32,C:}\nstep 10: n=0 notes=0 split=- trials=1 in=43 out=0 state=running next=20 held=[] numbers={N:0,M:0,I:0} strings={A:30,B:,S1:30,LINE:,C:}\nstep 11: n=0 notes=0 split=0;0 trials=1 in=43 out=0 state=running next=5 held=[] numbers={N:0,M:0,I:0} strings={A:30,B:,S1:30,LINE:,C:30}\nstep 12: n=0 notes=0 split=- trials=0 in=43 out=0 state=running next=6 held=[] numbers={N:0,M:0,I:0} strings={A:30,B:,S1:30,LINE:,C:30}\nstep 13: n=0 notes=0 split=0; trials=0 in=43 out=0 state=running next=7 held=[] numbers={N:0,M:0,I:0} strings={A:30,B:,S1:30,LINE:,C:30}\nstep 14: n=0 notes=0 split=- trials=0 in=43 out=0 state=running next=8 held=[] numbers={N:0,M:0,I:0} strings={A:413141313230,B:,S1:30,LINE:,C:30}\nstep 15: n=0 notes=1 split=- trials=0 in=56 out=0 state=running next=9 held=[] numbers={N:0,M:0,I:0} strings={A:413141313230,B:,S1:30,LINE:4141,C:30}\nstep 16: n=0 notes=0 split=- trials=3 in=56 out=0 state=running next=10 held=[] numbers={N:0,M:0,I:0} strings={A:,B:,S1:30,LINE:4141,C:30}\nstep 17: n=0 notes=0 split=- trials=0 in=56 out=0 state=running next=17 held=[] numbers={N:0,M:0,I:0} strings={A:,B:,S1:30,LINE:4141,C:30}\nstep 18: n=0 notes=0 split=- trials=1 in=56 out=0 state=running next=18 held=[] numbers={N:0,M:0,I:0} strings={A:,B:,S1:30,LINE:4141,C:30}\nstep 19: n=0 notes=0 split=- trials=0 in=56 out=0 state=running next=19 held=[] numbers={N:0,M:0,I:0} strings={A:30,B:,S1:30,LINE:4141,C:30}\nstep 20: n=0 notes=0 split=- trials=1 in=56 out=0 state=running next=20 held=[] numbers={N:0,M:0,I:0} strings={A:30,B:,S1:30,LINE:,C:30}\nstep 21: n=0 notes=0 split=0;1 trials=1 in=56 out=0 state=running next=5 held=[] numbers={N:0,M:0,I:0} strings={A:30,B:,S1:30,LINE:,C:30}\nstep 22: n=0 notes=0 split=- trials=0 in=56 out=0 state=running next=6 held=[] numbers={N:0,M:0,I:0} strings={A:30,B:,S1:30,LINE:,C:30}\nstep 23: n=0 notes=0 split=0; trials=0 in=56 out=0 state=running next=7 held=[] numbers={N:0,M:0,I:0} strings={A:30,B:,S1:30,LINE:,C:30}\nstep 24: n=0 notes=0 split=- trials=0 in=56 out=0 state=running next=8 held=[] numbers={N:0,M:0,I:0} strings={A:413141313230,B:,S1:30,LINE:,C:30}\nstep 25: n=0 notes=1 split=- trials=0 in=68 out=0 state=running next=9 held=[] numbers={N:0,M:0,I:0} strings={A:413141313230,B:,S1:30,LINE:4241,C:30}\nstep 26: n=0 notes=0 split=- trials=3 in=68 out=0 state=running next=10 held=[] numbers={N:0,M:0,I:0} strings={A:,B:,S1:30,LINE:4241,C:30}\nstep 27: n=0 notes=0 split=- trials=0 in=68 out=0 state=running next=17 held=[] numbers={N:0,M:0,I:0} strings={A:,B:,S1:30,LINE:4241,C:30}\nstep 28: n=0 notes=0 split=- trials=1 in=68 out=0 state=running next=18 held=[] numbers={N:0,M:0,I:0} strings={A:,B:,S1:30,LINE:4241,C:30}\nstep 29: n=0 notes=0 split=- trials=0 in=68 out=0 state=running next=19 held=[] numbers={N:0,M:0,I:0} strings={A:30,B:,S1:30,LINE:4241,C:30}\nstep 30: n=0 notes=0 split=- trials=1 in=68 out=0 state=running next=20 held=[] numbers={N:0,M:0,I:0} strings={A:30,B:,S1:30,LINE:,C:30}\nstep 31: n=0 notes=0 split=0;1 trials=1 in=68 out=0 state=running next=5 held=[] numbers={N:0,M:0,I:0} strings={A:30,B:,S1:30,LINE:,C:30}\nstep 32: n=0 notes=0 split=- trials=0 in=68 out=0 state=running next=6 held=[] numbers={N:0,M:0,I:0} strings={A:30,B:,S1:30,LINE:,C:30}\nstep 33: n=0 notes=0 split=0; trials=0 in=68 out=0 state=running next=7 held=[] numbers={N:0,M:0,I:0} strings={A:30,B:,S1:30,LINE:,C:30}\nstep 34: n=0 notes=0 split=- trials=0 in=68 out=0 state=running next=8 held=[] numbers={N:0,M:0,I:0} strings={A:413141313230,B:,S1:30,LINE:,C:30}\nstep 35: n=0 notes=0 split=- trials=0 in=68 out=0 state=running next=7 held=[] numbers={N:0,M:0,I:0} strings={A:413141313230,B:,S1:30,LINE:,C:30}\nstep 36: n=0 notes=0 split=- trials=0 in=68 out=0 state=running next=8 held=[] numbers={N:0,M:0,I:0} strings={A:4131413132413141313230,B:,S1:30,LINE:,C:30}\nstep 37: n=0 notes=0 split=- trials=0 in=68 out=0 state=running next=7 held=[] numbers={N:0,M:0,I:0} strings={A:4131413132413141313230,B:,S1:30,LINE:,C:30}\nstep 38: n=0 notes=0 split=- trials=0 in=68 out=0 state=running next=8 held=[] numbers={N:0,M:0,I:0} strings={A:41314131324131413132413141313230,B:,S1:30,LINE:,C:30}\nstep 39: n=0 notes=0 split=- trials=0 in=68 out=0 state=running next=7 held=[] numbers={N:0,M:0,I:0} strings={A:41314131324131413132413141313230,B:,S1:30,LINE:,C:30}\nstep 40: n=0 notes=0 split=- trials=0 in=68 out=0 state=running next=8 held=[] numbers={N:0,M:0,I:0} strings={A:413141313241314131324131413132413141313230,B:,S1:30,LINE:,C:30}\nstep 41: n=0 notes=0 split=- trials=0 in=68 out=0 state=running next=7 held=[] numbers={N:0,M:0,I:0} strings={A:413141313241314131324131413132413141313230,B:,S1:30,LINE:,C:30}\nstep 42: n=0 notes=0 split=- trials=0 in=68 out=0 state=running next=8 held=[] numbers={N:0,M:0,I:0} strings={A:4131413132413141313241314131324131413132413141313230,B:,S1:30,LINE:,C:30}\nstep 43: n=0 notes=0 split=- trials=0 in=68 out=0 state=running next=7 held=[] numbers={N:0,M:0,I:0} strings={A:4131413132413141313241314131324131413132413141313230,B:,S1:30,LINE:,C:30}\nstep 44: n=0 notes=0 split=- trials=0 in=68 out=0 state=running next=8 held=[] numbers={N:0,M:0,I:0} strings={A:41314131324131413132413141313241314131324131413132413141313230,B:,S1:30,LINE:,C:30}\nstep 45: n=0 notes=0 split=- trials=0 in=68 out=0 state=running next=7 held=[] numbers={N:0,M:0,I:0} strings={A:41314131324131413132413141313241314131324131413132413141313230,B:,S1:30,LINE:,C:30}\nstep 46: n=0 notes=0 split=- trials=0 in=68 out=0 state=running next=8 held=[] numbers={N:0,M:0,I:0} strings={A:413141313241314131324131413132413141313241314131324131413132413141313230,B:,S1:30,LINE:,C:30}\nstep 47: n=0 notes=0 split=- trials=0 in=68 out=0 state=running next=7 held=[] numbers={N:0,M:0,I:0} strings={A:413141313241314131324131413132413141313241314131324131413132413141313230,B:,S1:30,LINE:,C:30}\nstep 48: n=0 notes=0 split=- trials=0 in=68 out=0 state=running next=8 held=[] numbers={N:0,M:0,I:0} strings={A:4131413132413141313241314131324131413132413141313241314131324131413132413141313230,B:,S1:30,LINE:,C:30}\nstep 49: n=0 notes=0 split=- trials=0 in=68 out=0 state=running next=7 held=[] numbers={N:0,M:0,I:0} strings={A:4131413132413141313241314131324131413132413141313241314131324131413132413141313230,B:,S1:30,LINE:,C:30}\nstep 50: n=0 notes=0 split=- trials=0 in=68 out=0 state=running next=8 held=[] numbers={N:0,M:0,I:0} strings={A:41314131324131413132413141313241314131324131413132413141313241314131324131413132413141313230,B:,S1:30,LINE:,C:30}\nstep 51: n=0 notes=0 split=- trials=0 in=68 out=0 state=running next=7 held=[] numbers={N:0,M:0,I:0} strings={A:41314131324131413132413141313241314131324131413132413141313241314131324131413132413141313230,B:,S1:30,LINE:,C:30}\nstep 52: n=0 notes=0 split=- trials=0 in=68 out=0 state=running next=8 held=[] numbers={N:0,M:0,I:0} strings={A:413141313241314131324131413132413141313241314131324131413132413141313241314131324131413132413141313230,B:,S1:30,LINE:,C:30}\nstep 53: n=0 notes=0 split=- trials=0 in=68 out=0 state=running next=7 held=[] numbers={N:0,M:0,I:0} strings={A:413141313241314131324131413132413141313241314131324131413132413141313241314131324131413132413141313230,B:,S1:30,LINE:,C:30}\nstep 54: n=0 notes=0 split=- trials=0 in=68 out=0 state=running next=8 held=[] numbers={N:0,M:0,I:0} strings={A:4131413132413141313241314131324131413132413141313241314131324131413132413141313241314131324131413132413141313230,B:,S1:30,LINE:,C:30}\nstep 55: n=0 notes=0 split=- trials=0 in=68 out=0 state=running next=7 held=[] numbers={N:0,M:0,I:0} strings={A:4131413132413141313241314131324131413132413141313241314131324131413132413141313241314131324131413132413141313230,B:,S1:30,LINE:,C:30}\nstep 56: n=0 notes=0 split=- trials=0 in=68 out=0 state=running next=8 held=[] numbers={N:0,M:0,I:0} strings={A:41314131324131413132413141313241314131324131413132413141313241314131324131413132413141313241314131324131413132413141313230,B:,S1:30,LINE:,C:30}\nstep 57: n=0 notes=0 split=- trials=0 in=68 out=0 state=running next=7 held=[] numbers={N:0,M:0,I:0} strings={A:41314131324131413132413141313241314131324131413132413141313241314131324131413132413141313241314131324131413132413141313230,B:,S1:30,LINE:,C:30}\nstep 58: n=0 notes=0 split=- trials=0 in=68 out=0 state=running next=8 held=[] numbers={N:0,M:0,I:0} strings={A:413141313241314131324131413132413141313241314131324131413132413141313241314131324131413132413141313241314131324131413132413141313230,B:,S1:30,LINE:,C:30}\nstep 59: n=0 notes=0 split=- trials=0 in=68 out=0 state=running next=7 held=[] numbers={N:0,M:0,I:0} strings={A:413141313241314131324131413132413141313241314131324131413132413141313241314131324131413132413141313241314131324131413132413141313230,B:,S1:30,LINE:,C:30}\nstep 60: n=0 notes=0 split=- trials=0 in=68 out=0 state=running next=8 held=[] numbers={N:0,M:0,I:0} strings={A:4131413132413141313241314131324131413132413141313241314131324131413132413141313241314131324131413132413141313241314131324131413132413141313230,B:,S1:30,LINE:,C:30}\n" ≡ true
unfolding agrees
v011 = refl

v012 : agrees "         PRO  G RAM TEST  1\n         NUMBER R  E  AD\nX9       S1$5=  S  TRING(0  ,REA D)\n LOOP    SCAN B[(C),B,(LINE$3),STRING(6,READ)]\n         S1 =  \"A\"\n L1      WRITE(61) \"((  (\"\n         WRITE(61) TEXTLONG ,STRIN G(REA  D,READ)\nL2       IF(NUMBER(IF)=LENGTH(B))/L1\n         WRITE(61) \"+3)3+\",B,STRING(0,READ),B\nL3       IF=\"\"\"\n         TEXTLONG$3=\",\",\"1/\"\nDONE     END\n" "\n+\n- B\nB2,2 -1-AAA  A+A+1+12A  102A+1B ++-1-22,\n" "step 1: n=0 notes=0 split=- trials=0 in=0 out=0 state=running next=4 held=[] numbers={READ:0} strings={S1:30,B:,C:,LINE:,TEXTLONG:,IF:}\nstep 2: n=0 notes=0 split=- trials=2 in=0 out=0 state=running next=5 held=[] numbers={READ:0} strings={S1:30,B:,C:,LINE:,TEXTLONG:,IF:}\nstep 3: n=0 notes=0 split=- trials=0 in=0 out=0 state=running next=6 held=[] numbers={READ:0} strings={S1:41,B:,C:,LINE:,TEXTLONG:,IF:}\nstep 4: n=0 notes=0 split=- trials=0 in=0 out=6 state=running next=7 held=[] numbers={READ:0} strings={S1:41,B:,C:,LINE:,TEXTLONG:,IF:}\nstep 5: n=0 notes=0 split=- trials=0 in=0 out=8 state=running next=8 held=[] numbers={READ:0} strings={S1:41,B:,C:,LINE:,TEXTLONG:,IF:}\nstep 6: n=0 notes=1 split=- trials=0 in=0 out=8 state=running next=6 held=[] numbers={READ:0} strings={S1:41,B:,C:,LINE:,TEXTLONG:,IF:}\nstep 7: n=0 notes=0 split=- trials=0 in=0 out=14 state=running next=7 held=[] numbers={READ:0} strings={S1:41,B:,C:,LINE:,TEXTLONG:,IF:}\nstep 8: n=0 notes=0 split=- trials=0 in=0 out=16 state=running next=8 held=[] numbers={READ:0} strings={S1:41,B:,C:,LINE:,TEXTLONG:,IF:}\nstep 9: n=0 notes=1 split=- trials=0 in=0 out=16 state=running next=6 held=[] numbers={READ:0} strings={S1:41,B:,C:,LINE:,TEXTLONG:,IF:}\nstep 10: n=0 notes=0 split=- trials=0 in=0 out=22 state=running next=7 held=[] numbers={READ:0} strings={S1:41,B:,C:,LINE:,TEXTLONG:,IF:}\nstep 11: n=0 notes=0 split=- trials=0 in=0 out=24 state=running next=8 held=[] numbers={READ:0} strings={S1:41,B:,C:,LINE:,TEXTLONG:,IF:}\nstep 12: n=0 notes=1 split=- trials=0 in=0 out=24 state=running next=6 held=[] numbers={READ:0} strings={S1:41,B:,C:,LINE:,TEXTLONG:,IF:}\nstep 13: n=0 notes=0 split=- trials=0 in=0 out=30 state=running next=7 held=[] numbers={READ:0} strings={S1:41,B:,C:,LINE:,TEXTLONG:,IF:}\nstep 14: n=0 notes=0 split=- trials=0 in=0 out=32 state=running next=8 held=[] numbers={READ:0} strings={S1:41,B:,C:,LINE:,TEXTLONG:,IF:}\nstep 15: n=0 notes=1 split=- trials=0 in=0 out=32 state=running next=6 held=[] numbers={READ:0} strings={S1:41,B:,C:,LINE:,TEXTLONG:,IF:}\nstep 16: n=0 notes=0 split=- trials=0 in=0 out=38 state=running next=7 held=[] numbers={READ:0} strings={S1:41,B:,C:,LINE:,TEXTLONG:,IF:}\nstep 17: n=0 notes=0 split=- trials=0 in=0 out=40 state=running next=8 held=[] numbers={READ:0} strings={S1:41,B:,C:,LINE:,TEXTLONG:,IF:}\nstep 18: n=0 notes=1 split=- trials=0 in=0 out=40 state=running next=6 held=[] numbers={READ:0} strings={S1:41,B:,C:,LINE:,TEXTLONG:,IF:}\nstep 19: n=0 notes=0 split=- trials=0 in=0 out=46 state=running next=7 held=[] numbers={READ:0} strings={S1:41,B:,C:,LINE:,TEXTLONG:,IF:}\nstep 20: n=0 notes=0 split=- trials=0 in=0 out=48 state=running next=8 held=[] numbers={READ:0} strings={S1:41,B:,C:,LINE:,TEXTLONG:,IF:}\nstep 21: n=0 notes=1 split=- trials=0 in=0 out=48 state=running next=6 held=[] numbers={READ:0} strings={S1:41,B:,C:,LINE:,TEXTLONG:,IF:}\nstep 22: n=0 notes=0 split=- trials=0 in=0 out=54 state=running next=7 held=[] numbers={READ:0} strings={S1:41,B:,C:,LINE:,TEXTLONG:,IF:}\nstep 23: n=0 notes=0 split=- trials=0 in=0 out=56 state=running next=8 held=[] numbers={READ:0} strings={S1:41,B:,C:,LINE:,TEXTLONG:,IF:}\nstep 24: n=0 notes=1 split=- trials=0 in=0 out=56 state=running next=6 held=[] numbers={READ:0} strings={S1:41,B:,C:,LINE:,TEXTLONG:,IF:}\nstep 25: n=0 notes=0 split=- trials=0 in=0 out=62 state=running next=7 held=[] numbers={READ:0} strings={S1:41,B:,C:,LINE:,TEXTLONG:,IF:}\nstep 26: n=0 notes=0 split=- trials=0 in=0 out=64 state=running next=8 held=[] numbers={READ:0} strings={S1:41,B:,C:,LINE:,TEXTLONG:,IF:}\nstep 27: n=0 notes=1 split=- trials=0 in=0 out=64 state=running next=6 held=[] numbers={READ:0} strings={S1:41,B:,C:,LINE:,TEXTLONG:,IF:}\nstep 28: n=0 notes=0 split=- trials=0 in=0 out=70 state=running next=7 held=[] numbers={READ:0} strings={S1:41,B:,C:,LINE:,TEXTLONG:,IF:}\nstep 29: n=0 notes=0 split=- trials=0 in=0 out=72 state=running next=8 held=[] numbers={READ:0} strings={S1:41,B:,C:,LINE:,TEXTLONG:,IF:}\nstep 30: n=0 notes=1 split=- trials=0 in=0 out=72 state=running next=6 held=[] numbers={READ:0} strings={S1:41,B:,C:,LINE:,TEXTLONG:,IF:}\nstep 31: n=0 notes=0 split=- trials=0 in=0 out=78 state=running next=7 held=[] numbers={READ:0} strings={S1:41,B:,C:,LINE:,TEXTLONG:,IF:}\nstep 32: n=0 notes=0 split=- trials=0 in=0 out=80 state=running next=8 held=[] numbers={READ:0} strings={S1:41,B:,C:,LINE:,TEXTLONG:,IF:}\nstep 33: n=0 notes=1 split=- trials=0 in=0 out=80 state=running next=6 held=[] numbers={READ:0} strings={S1:41,B:,C:,LINE:,TEXTLONG:,IF:}\nstep 34: n=0 notes=0 split=- trials=0 in=0 out=86 state=running next=7 held=[] numbers={READ:0} strings={S1:41,B:,C:,LINE:,TEXTLONG:,IF:}\nstep 35: n=0 notes=0 split=- trials=0 in=0 out=88 state=running next=8 held=[] numbers={READ:0} strings={S1:41,B:,C:,LINE:,TEXTLONG:,IF:}\nstep 36: n=0 notes=1 split=- trials=0 in=0 out=88 state=running next=6 held=[] numbers={READ:0} strings={S1:41,B:,C:,LINE:,TEXTLONG:,IF:}\nstep 37: n=0 notes=0 split=- trials=0 in=0 out=94 state=running next=7 held=[] numbers={READ:0} strings={S1:41,B:,C:,LINE:,TEXTLONG:,IF:}\nstep 38: n=0 notes=0 split=- trials=0 in=0 out=96 state=running next=8 held=[] numbers={READ:0} strings={S1:41,B:,C:,LINE:,TEXTLONG:,IF:}\nstep 39: n=0 notes=1 split=- trials=0 in=0 out=96 state=running next=6 held=[] numbers={READ:0} strings={S1:41,B:,C:,LINE:,TEXTLONG:,IF:}\nstep 40: n=0 notes=0 split=- trials=0 in=0 out=102 state=running next=7 held=[] numbers={READ:0} strings={S1:41,B:,C:,LINE:,TEXTLONG:,IF:}\nstep 41: n=0 notes=0 split=- trials=0 in=0 out=104 state=running next=8 held=[] numbers={READ:0} strings={S1:41,B:,C:,LINE:,TEXTLONG:,IF:}\nstep 42: n=0 notes=1 split=- trials=0 in=0 out=104 state=running next=6 held=[] numbers={READ:0} strings={S1:41,B:,C:,LINE:,TEXTLONG:,IF:}\nstep 43: n=0 notes=0 split=- trials=0 in=0 out=110 state=running next=7 held=[] numbers={READ:0} strings={S1:41,B:,C:,LINE:,TEXTLONG:,IF:}\nstep 44: n=0 notes=0 split=- trials=0 in=0 out=112 state=running next=8 held=[] numbers={READ:0} strings={S1:41,B:,C:,LINE:,TEXTLONG:,IF:}\nstep 45: n=0 notes=1 split=- trials=0 in=0 out=112 state=running next=6 held=[] numbers={READ:0} strings={S1:41,B:,C:,LINE:,TEXTLONG:,IF:}\nstep 46: n=0 notes=0 split=- trials=0 in=0 out=118 state=running next=7 held=[] numbers={READ:0} strings={S1:41,B:,C:,LINE:,TEXTLONG:,IF:}\nstep 47: n=0 notes=0 split=- trials=0 in=0 out=120 state=running next=8 held=[] numbers={READ:0} strings={S1:41,B:,C:,LINE:,TEXTLONG:,IF:}\nstep 48: n=0 notes=1 split=- trials=0 in=0 out=120 state=running next=6 held=[] numbers={READ:0} strings={S1:41,B:,C:,LINE:,TEXTLONG:,IF:}\nstep 49: n=0 notes=0 split=- trials=0 in=0 out=126 state=running next=7 held=[] numbers={READ:0} strings={S1:41,B:,C:,LINE:,TEXTLONG:,IF:}\nstep 50: n=0 notes=0 split=- trials=0 in=0 out=128 state=running next=8 held=[] numbers={READ:0} strings={S1:41,B:,C:,LINE:,TEXTLONG:,IF:}\nstep 51: n=0 notes=1 split=- trials=0 in=0 out=128 state=running next=6 held=[] numbers={READ:0} strings={S1:41,B:,C:,LINE:,TEXTLONG:,IF:}\nstep 52: n=0 notes=0 split=- trials=0 in=0 out=134 state=running next=7 held=[] numbers={READ:0} strings={S1:41,B:,C:,LINE:,TEXTLONG:,IF:}\nstep 53: n=0 notes=0 split=- trials=0 in=0 out=136 state=running next=8 held=[] numbers={READ:0} strings={S1:41,B:,C:,LINE:,TEXTLONG:,IF:}\nstep 54: n=0 notes=1 split=- trials=0 in=0 out=136 state=running next=6 held=[] numbers={READ:0} strings={S1:41,B:,C:,LINE:,TEXTLONG:,IF:}\nstep 55: n=0 notes=0 split=- trials=0 in=0 out=142 state=running next=7 held=[] numbers={READ:0} strings={S1:41,B:,C:,LINE:,TEXTLONG:,IF:}\nstep 56: n=0 notes=0 split=- trials=0 in=0 out=144 state=running next=8 held=[] numbers={READ:0} strings={S1:41,B:,C:,LINE:,TEXTLONG:,IF:}\nstep 57: n=0 notes=1 split=- trials=0 in=0 out=144 state=running next=6 held=[] numbers={READ:0} strings={S1:41,B:,C:,LINE:,TEXTLONG:,IF:}\nstep 58: n=0 notes=0 split=- trials=0 in=0 out=150 state=running next=7 held=[] numbers={READ:0} strings={S1:41,B:,C:,LINE:,TEXTLONG:,IF:}\nstep 59: n=0 notes=0 split=- trials=0 in=0 out=152 state=running next=8 held=[] numbers={READ:0} strings={S1:41,B:,C:,LINE:,TEXTLONG:,IF:}\nstep 60: n=0 notes=1 split=- trials=0 in=0 out=152 state=running next=6 held=[] numbers={READ:0} strings={S1:41,B:,C:,LINE:,TEXTLONG:,IF:}\n" ≡ true
unfolding agrees
v012 = refl

v013 : agrees "         PROGRAM P\n         NUMBER N,M,I\nL1       ROUTINE R1\nL2       ENDROUTINE\nX9       WRIT  E C$3,S1  $N\n DONE    B=C,B\n L3      GO TO LOOP\nLOOP     END\n" "A,0\n" "step 1: n=0 notes=0 split=- trials=0 in=0 out=0 state=running next=5 held=[] numbers={N:0,M:0,I:0} strings={C:,S1:,B:}\nstep 2: n=0 notes=0 split=- trials=0 in=0 out=0 state=running next=6 held=[] numbers={N:0,M:0,I:0} strings={C:,S1:,B:}\nstep 3: n=0 notes=0 split=- trials=0 in=0 out=0 state=running next=7 held=[] numbers={N:0,M:0,I:0} strings={C:,S1:,B:}\nstep 4: n=0 notes=0 split=- trials=0 in=0 out=0 state=running next=8 held=[] numbers={N:0,M:0,I:0} strings={C:,S1:,B:}\nstep 5: n=0 notes=0 split=- trials=0 in=0 out=0 state=finished next=8 held=[] numbers={N:0,M:0,I:0} strings={C:,S1:,B:}\n" ≡ true
unfolding agrees
v013 = refl

v014 : agrees "         PROGRAM LOTS\n         NUMBER PRINT,M,I ,K9,COUN  T\nLOOP    *B ACKSC AN   A$3[T\n        XE X TLO NG,\"A1 AB\"\n         ]/,L2\n        +BACKSCAN TEXTLONG$8[(S1$\n        +PRINT),END$COUNT,(C$3),(\n         A$0),(A)]=/DONE,L3\nDONE     IF(NU  M  ER IC(B)  )/ LOOP\nL2       IF(0006<>+4)/L2,L1\n         S1=STRING(5,PRINT),\"A,\",TEXTLONG\nX9       B=\", \",\"AB\"\n        +BACKSCA N S1[\"\n        XBB21A\"]=/,DONE\n           \nL3       SCAN T  EX TLONG$K9[\",2A\",(C  ),(B)]=A,S1,\"B\",A$3\n* COMMENT 5\nL1       END\n" "" "REFUSED 3 13\n" ≡ true
unfolding agrees
v014 = refl

v015 : agrees "         P ROGR AM LOTS\n         NUMBER N,M,I,K9,COUNT\n         ROUTIN  E R2\n         M=M*NUMBER(F$4)*8*M\nL3       PRINT S1,LINE$6\n         READ B/L3,  L3\n         I=  K9 \n         ENDROUTINE\n         READ B\n         EXECUT E   R1\nDONE     M=+N                                                           SEQ43766\n L1      I=2+49/195                                                     SEQ87670\n         ROU TINE   R 1\nL2       RETURN\n         PRINT STRING(6,I)\nLOOP    1ENDROUTIN                                                      SEQ57234\n         E\n X9      IF(N<N)/DONE,X9\n                                                                        SEQ\n         E  N D  \n" "2-0\n" "step 1: n=0 notes=0 split=- trials=0 in=0 out=0 state=running next=9 held=[] numbers={N:0,M:0,I:0,K9:0,COUNT:0} strings={F:,S1:,LINE:,B:}\nstep 2: n=0 notes=0 split=- trials=0 in=4 out=0 state=running next=10 held=[] numbers={N:0,M:0,I:0,K9:0,COUNT:0} strings={F:,S1:,LINE:,B:322d30}\nstep 3: n=0 notes=0 split=- trials=0 in=4 out=0 state=running next=14 held=[11] numbers={N:0,M:0,I:0,K9:0,COUNT:0} strings={F:,S1:,LINE:,B:322d30}\nstep 4: n=0 notes=0 split=- trials=0 in=4 out=0 state=running next=11 held=[] numbers={N:0,M:0,I:0,K9:0,COUNT:0} strings={F:,S1:,LINE:,B:322d30}\nstep 5: n=0 notes=0 split=- trials=0 in=4 out=0 state=running next=12 held=[] numbers={N:0,M:0,I:0,K9:0,COUNT:0} strings={F:,S1:,LINE:,B:322d30}\nstep 6: n=0 notes=0 split=- trials=0 in=4 out=0 state=running next=13 held=[] numbers={N:0,M:0,I:2,K9:0,COUNT:0} strings={F:,S1:,LINE:,B:322d30}\nstep 7: n=0 notes=0 split=- trials=0 in=4 out=0 state=running next=18 held=[] numbers={N:0,M:0,I:2,K9:0,COUNT:0} strings={F:,S1:,LINE:,B:322d30}\nstep 8: n=0 notes=0 split=- trials=0 in=4 out=0 state=running next=18 held=[] numbers={N:0,M:0,I:2,K9:0,COUNT:0} strings={F:,S1:,LINE:,B:322d30}\nstep 9: n=0 notes=0 split=- trials=0 in=4 out=0 state=running next=18 held=[] numbers={N:0,M:0,I:2,K9:0,COUNT:0} strings={F:,S1:,LINE:,B:322d30}\nstep 10: n=0 notes=0 split=- trials=0 in=4 out=0 state=running next=18 held=[] numbers={N:0,M:0,I:2,K9:0,COUNT:0} strings={F:,S1:,LINE:,B:322d30}\nstep 11: n=0 notes=0 split=- trials=0 in=4 out=0 state=running next=18 held=[] numbers={N:0,M:0,I:2,K9:0,COUNT:0} strings={F:,S1:,LINE:,B:322d30}\nstep 12: n=0 notes=0 split=- trials=0 in=4 out=0 state=running next=18 held=[] numbers={N:0,M:0,I:2,K9:0,COUNT:0} strings={F:,S1:,LINE:,B:322d30}\nstep 13: n=0 notes=0 split=- trials=0 in=4 out=0 state=running next=18 held=[] numbers={N:0,M:0,I:2,K9:0,COUNT:0} strings={F:,S1:,LINE:,B:322d30}\nstep 14: n=0 notes=0 split=- trials=0 in=4 out=0 state=running next=18 held=[] numbers={N:0,M:0,I:2,K9:0,COUNT:0} strings={F:,S1:,LINE:,B:322d30}\nstep 15: n=0 notes=0 split=- trials=0 in=4 out=0 state=running next=18 held=[] numbers={N:0,M:0,I:2,K9:0,COUNT:0} strings={F:,S1:,LINE:,B:322d30}\nstep 16: n=0 notes=0 split=- trials=0 in=4 out=0 state=running next=18 held=[] numbers={N:0,M:0,I:2,K9:0,COUNT:0} strings={F:,S1:,LINE:,B:322d30}\nstep 17: n=0 notes=0 split=- trials=0 in=4 out=0 state=running next=18 held=[] numbers={N:0,M:0,I:2,K9:0,COUNT:0} strings={F:,S1:,LINE:,B:322d30}\nstep 18: n=0 notes=0 split=- trials=0 in=4 out=0 state=running next=18 held=[] numbers={N:0,M:0,I:2,K9:0,COUNT:0} strings={F:,S1:,LINE:,B:322d30}\nstep 19: n=0 notes=0 split=- trials=0 in=4 out=0 state=running next=18 held=[] numbers={N:0,M:0,I:2,K9:0,COUNT:0} strings={F:,S1:,LINE:,B:322d30}\nstep 20: n=0 notes=0 split=- trials=0 in=4 out=0 state=running next=18 held=[] numbers={N:0,M:0,I:2,K9:0,COUNT:0} strings={F:,S1:,LINE:,B:322d30}\nstep 21: n=0 notes=0 split=- trials=0 in=4 out=0 state=running next=18 held=[] numbers={N:0,M:0,I:2,K9:0,COUNT:0} strings={F:,S1:,LINE:,B:322d30}\nstep 22: n=0 notes=0 split=- trials=0 in=4 out=0 state=running next=18 held=[] numbers={N:0,M:0,I:2,K9:0,COUNT:0} strings={F:,S1:,LINE:,B:322d30}\nstep 23: n=0 notes=0 split=- trials=0 in=4 out=0 state=running next=18 held=[] numbers={N:0,M:0,I:2,K9:0,COUNT:0} strings={F:,S1:,LINE:,B:322d30}\nstep 24: n=0 notes=0 split=- trials=0 in=4 out=0 state=running next=18 held=[] numbers={N:0,M:0,I:2,K9:0,COUNT:0} strings={F:,S1:,LINE:,B:322d30}\nstep 25: n=0 notes=0 split=- trials=0 in=4 out=0 state=running next=18 held=[] numbers={N:0,M:0,I:2,K9:0,COUNT:0} strings={F:,S1:,LINE:,B:322d30}\nstep 26: n=0 notes=0 split=- trials=0 in=4 out=0 state=running next=18 held=[] numbers={N:0,M:0,I:2,K9:0,COUNT:0} strings={F:,S1:,LINE:,B:322d30}\nstep 27: n=0 notes=0 split=- trials=0 in=4 out=0 state=running next=18 held=[] numbers={N:0,M:0,I:2,K9:0,COUNT:0} strings={F:,S1:,LINE:,B:322d30}\nstep 28: n=0 notes=0 split=- trials=0 in=4 out=0 state=running next=18 held=[] numbers={N:0,M:0,I:2,K9:0,COUNT:0} strings={F:,S1:,LINE:,B:322d30}\nstep 29: n=0 notes=0 split=- trials=0 in=4 out=0 state=running next=18 held=[] numbers={N:0,M:0,I:2,K9:0,COUNT:0} strings={F:,S1:,LINE:,B:322d30}\nstep 30: n=0 notes=0 split=- trials=0 in=4 out=0 state=running next=18 held=[] numbers={N:0,M:0,I:2,K9:0,COUNT:0} strings={F:,S1:,LINE:,B:322d30}\nstep 31: n=0 notes=0 split=- trials=0 in=4 out=0 state=running next=18 held=[] numbers={N:0,M:0,I:2,K9:0,COUNT:0} strings={F:,S1:,LINE:,B:322d30}\nstep 32: n=0 notes=0 split=- trials=0 in=4 out=0 state=running next=18 held=[] numbers={N:0,M:0,I:2,K9:0,COUNT:0} strings={F:,S1:,LINE:,B:322d30}\nstep 33: n=0 notes=0 split=- trials=0 in=4 out=0 state=running next=18 held=[] numbers={N:0,M:0,I:2,K9:0,COUNT:0} strings={F:,S1:,LINE:,B:322d30}\nstep 34: n=0 notes=0 split=- trials=0 in=4 out=0 state=running next=18 held=[] numbers={N:0,M:0,I:2,K9:0,COUNT:0} strings={F:,S1:,LINE:,B:322d30}\nstep 35: n=0 notes=0 split=- trials=0 in=4 out=0 state=running next=18 held=[] numbers={N:0,M:0,I:2,K9:0,COUNT:0} strings={F:,S1:,LINE:,B:322d30}\nstep 36: n=0 notes=0 split=- trials=0 in=4 out=0 state=running next=18 held=[] numbers={N:0,M:0,I:2,K9:0,COUNT:0} strings={F:,S1:,LINE:,B:322d30}\nstep 37: n=0 notes=0 split=- trials=0 in=4 out=0 state=running next=18 held=[] numbers={N:0,M:0,I:2,K9:0,COUNT:0} strings={F:,S1:,LINE:,B:322d30}\nstep 38: n=0 notes=0 split=- trials=0 in=4 out=0 state=running next=18 held=[] numbers={N:0,M:0,I:2,K9:0,COUNT:0} strings={F:,S1:,LINE:,B:322d30}\nstep 39: n=0 notes=0 split=- trials=0 in=4 out=0 state=running next=18 held=[] numbers={N:0,M:0,I:2,K9:0,COUNT:0} strings={F:,S1:,LINE:,B:322d30}\nstep 40: n=0 notes=0 split=- trials=0 in=4 out=0 state=running next=18 held=[] numbers={N:0,M:0,I:2,K9:0,COUNT:0} strings={F:,S1:,LINE:,B:322d30}\nstep 41: n=0 notes=0 split=- trials=0 in=4 out=0 state=running next=18 held=[] numbers={N:0,M:0,I:2,K9:0,COUNT:0} strings={F:,S1:,LINE:,B:322d30}\nstep 42: n=0 notes=0 split=- trials=0 in=4 out=0 state=running next=18 held=[] numbers={N:0,M:0,I:2,K9:0,COUNT:0} strings={F:,S1:,LINE:,B:322d30}\nstep 43: n=0 notes=0 split=- trials=0 in=4 out=0 state=running next=18 held=[] numbers={N:0,M:0,I:2,K9:0,COUNT:0} strings={F:,S1:,LINE:,B:322d30}\nstep 44: n=0 notes=0 split=- trials=0 in=4 out=0 state=running next=18 held=[] numbers={N:0,M:0,I:2,K9:0,COUNT:0} strings={F:,S1:,LINE:,B:322d30}\nstep 45: n=0 notes=0 split=- trials=0 in=4 out=0 state=running next=18 held=[] numbers={N:0,M:0,I:2,K9:0,COUNT:0} strings={F:,S1:,LINE:,B:322d30}\nstep 46: n=0 notes=0 split=- trials=0 in=4 out=0 state=running next=18 held=[] numbers={N:0,M:0,I:2,K9:0,COUNT:0} strings={F:,S1:,LINE:,B:322d30}\nstep 47: n=0 notes=0 split=- trials=0 in=4 out=0 state=running next=18 held=[] numbers={N:0,M:0,I:2,K9:0,COUNT:0} strings={F:,S1:,LINE:,B:322d30}\nstep 48: n=0 notes=0 split=- trials=0 in=4 out=0 state=running next=18 held=[] numbers={N:0,M:0,I:2,K9:0,COUNT:0} strings={F:,S1:,LINE:,B:322d30}\nstep 49: n=0 notes=0 split=- trials=0 in=4 out=0 state=running next=18 held=[] numbers={N:0,M:0,I:2,K9:0,COUNT:0} strings={F:,S1:,LINE:,B:322d30}\nstep 50: n=0 notes=0 split=- trials=0 in=4 out=0 state=running next=18 held=[] numbers={N:0,M:0,I:2,K9:0,COUNT:0} strings={F:,S1:,LINE:,B:322d30}\nstep 51: n=0 notes=0 split=- trials=0 in=4 out=0 state=running next=18 held=[] numbers={N:0,M:0,I:2,K9:0,COUNT:0} strings={F:,S1:,LINE:,B:322d30}\nstep 52: n=0 notes=0 split=- trials=0 in=4 out=0 state=running next=18 held=[] numbers={N:0,M:0,I:2,K9:0,COUNT:0} strings={F:,S1:,LINE:,B:322d30}\nstep 53: n=0 notes=0 split=- trials=0 in=4 out=0 state=running next=18 held=[] numbers={N:0,M:0,I:2,K9:0,COUNT:0} strings={F:,S1:,LINE:,B:322d30}\nstep 54: n=0 notes=0 split=- trials=0 in=4 out=0 state=running next=18 held=[] numbers={N:0,M:0,I:2,K9:0,COUNT:0} strings={F:,S1:,LINE:,B:322d30}\nstep 55: n=0 notes=0 split=- trials=0 in=4 out=0 state=running next=18 held=[] numbers={N:0,M:0,I:2,K9:0,COUNT:0} strings={F:,S1:,LINE:,B:322d30}\nstep 56: n=0 notes=0 split=- trials=0 in=4 out=0 state=running next=18 held=[] numbers={N:0,M:0,I:2,K9:0,COUNT:0} strings={F:,S1:,LINE:,B:322d30}\nstep 57: n=0 notes=0 split=- trials=0 in=4 out=0 state=running next=18 held=[] numbers={N:0,M:0,I:2,K9:0,COUNT:0} strings={F:,S1:,LINE:,B:322d30}\nstep 58: n=0 notes=0 split=- trials=0 in=4 out=0 state=running next=18 held=[] numbers={N:0,M:0,I:2,K9:0,COUNT:0} strings={F:,S1:,LINE:,B:322d30}\nstep 59: n=0 notes=0 split=- trials=0 in=4 out=0 state=running next=18 held=[] numbers={N:0,M:0,I:2,K9:0,COUNT:0} strings={F:,S1:,LINE:,B:322d30}\nstep 60: n=0 notes=0 split=- trials=0 in=4 out=0 state=running next=18 held=[] numbers={N:0,M:0,I:2,K9:0,COUNT:0} strings={F:,S1:,LINE:,B:322d30}\n" ≡ true
unfolding agrees
v015 = refl

v016 : agrees "         PROG RA  M  LOTS                                               SEQ95343\n         NUMBER N,M,I\nDONE    +I  F(\n        +  6> \nIGNORED 1+4)/,\n         L3\n         PRINT(61) \"\"\"\n\n         ROUTINE R1\n         READ A\nLOOP     C$4=\",A\",S1$I\n         END RO UTINE\nL1       READ B$4\nL2       READ S1                                                        SEQ50611\nL3       IF(N UMBER  (C$ 5)<4)/  L2,DONE\nX9       END" "" "step 1: n=0 notes=0 split=- trials=0 in=0 out=0 state=running next=7 held=[] numbers={N:0,M:0,I:0} strings={A:,C:,S1:,B:}\nstep 2: n=0 notes=0 split=- trials=0 in=0 out=2 state=running next=9 held=[] numbers={N:0,M:0,I:0} strings={A:,C:,S1:,B:}\nstep 3: n=0 notes=0 split=- trials=0 in=0 out=2 state=running next=13 held=[] numbers={N:0,M:0,I:0} strings={A:,C:,S1:,B:}\nstep 4: n=0 notes=0 split=- trials=0 in=0 out=2 state=running next=14 held=[] numbers={N:0,M:0,I:0} strings={A:,C:,S1:,B:}\nstep 5: n=0 notes=0 split=- trials=0 in=0 out=2 state=running next=15 held=[] numbers={N:0,M:0,I:0} strings={A:,C:,S1:,B:}\nstep 6: n=0 notes=1 split=- trials=0 in=0 out=2 state=running next=14 held=[] numbers={N:0,M:0,I:0} strings={A:,C:,S1:,B:}\nstep 7: n=0 notes=0 split=- trials=0 in=0 out=2 state=running next=15 held=[] numbers={N:0,M:0,I:0} strings={A:,C:,S1:,B:}\nstep 8: n=0 notes=1 split=- trials=0 in=0 out=2 state=running next=14 held=[] numbers={N:0,M:0,I:0} strings={A:,C:,S1:,B:}\nstep 9: n=0 notes=0 split=- trials=0 in=0 out=2 state=running next=15 held=[] numbers={N:0,M:0,I:0} strings={A:,C:,S1:,B:}\nstep 10: n=0 notes=1 split=- trials=0 in=0 out=2 state=running next=14 held=[] numbers={N:0,M:0,I:0} strings={A:,C:,S1:,B:}\nstep 11: n=0 notes=0 split=- trials=0 in=0 out=2 state=running next=15 held=[] numbers={N:0,M:0,I:0} strings={A:,C:,S1:,B:}\nstep 12: n=0 notes=1 split=- trials=0 in=0 out=2 state=running next=14 held=[] numbers={N:0,M:0,I:0} strings={A:,C:,S1:,B:}\nstep 13: n=0 notes=0 split=- trials=0 in=0 out=2 state=running next=15 held=[] numbers={N:0,M:0,I:0} strings={A:,C:,S1:,B:}\nstep 14: n=0 notes=1 split=- trials=0 in=0 out=2 state=running next=14 held=[] numbers={N:0,M:0,I:0} strings={A:,C:,S1:,B:}\nstep 15: n=0 notes=0 split=- trials=0 in=0 out=2 state=running next=15 held=[] numbers={N:0,M:0,I:0} strings={A:,C:,S1:,B:}\nstep 16: n=0 notes=1 split=- trials=0 in=0 out=2 state=running next=14 held=[] numbers={N:0,M:0,I:0} strings={A:,C:,S1:,B:}\nstep 17: n=0 notes=0 split=- trials=0 in=0 out=2 state=running next=15 held=[] numbers={N:0,M:0,I:0} strings={A:,C:,S1:,B:}\nstep 18: n=0 notes=1 split=- trials=0 in=0 out=2 state=running next=14 held=[] numbers={N:0,M:0,I:0} strings={A:,C:,S1:,B:}\nstep 19: n=0 notes=0 split=- trials=0 in=0 out=2 state=running next=15 held=[] numbers={N:0,M:0,I:0} strings={A:,C:,S1:,B:}\nstep 20: n=0 notes=1 split=- trials=0 in=0 out=2 state=running next=14 held=[] numbers={N:0,M:0,I:0} strings={A:,C:,S1:,B:}\nstep 21: n=0 notes=0 split=- trials=0 in=0 out=2 state=running next=15 held=[] numbers={N:0,M:0,I:0} strings={A:,C:,S1:,B:}\nstep 22: n=0 notes=1 split=- trials=0 in=0 out=2 state=running next=14 held=[] numbers={N:0,M:0,I:0} strings={A:,C:,S1:,B:}\nstep 23: n=0 notes=0 split=- trials=0 in=0 out=2 state=running next=15 held=[] numbers={N:0,M:0,I:0} strings={A:,C:,S1:,B:}\nstep 24: n=0 notes=1 split=- trials=0 in=0 out=2 state=running next=14 held=[] numbers={N:0,M:0,I:0} strings={A:,C:,S1:,B:}\nstep 25: n=0 notes=0 split=- trials=0 in=0 out=2 state=running next=15 held=[] numbers={N:0,M:0,I:0} strings={A:,C:,S1:,B:}\nstep 26: n=0 notes=1 split=- trials=0 in=0 out=2 state=running next=14 held=[] numbers={N:0,M:0,I:0} strings={A:,C:,S1:,B:}\nstep 27: n=0 notes=0 split=- trials=0 in=0 out=2 state=running next=15 held=[] numbers={N:0,M:0,I:0} strings={A:,C:,S1:,B:}\nstep 28: n=0 notes=1 split=- trials=0 in=0 out=2 state=running next=14 held=[] numbers={N:0,M:0,I:0} strings={A:,C:,S1:,B:}\nstep 29: n=0 notes=0 split=- trials=0 in=0 out=2 state=running next=15 held=[] numbers={N:0,M:0,I:0} strings={A:,C:,S1:,B:}\nstep 30: n=0 notes=1 split=- trials=0 in=0 out=2 state=running next=14 held=[] numbers={N:0,M:0,I:0} strings={A:,C:,S1:,B:}\nstep 31: n=0 notes=0 split=- trials=0 in=0 out=2 state=running next=15 held=[] numbers={N:0,M:0,I:0} strings={A:,C:,S1:,B:}\nstep 32: n=0 notes=1 split=- trials=0 in=0 out=2 state=running next=14 held=[] numbers={N:0,M:0,I:0} strings={A:,C:,S1:,B:}\nstep 33: n=0 notes=0 split=- trials=0 in=0 out=2 state=running next=15 held=[] numbers={N:0,M:0,I:0} strings={A:,C:,S1:,B:}\nstep 34: n=0 notes=1 split=- trials=0 in=0 out=2 state=running next=14 held=[] numbers={N:0,M:0,I:0} strings={A:,C:,S1:,B:}\nstep 35: n=0 notes=0 split=- trials=0 in=0 out=2 state=running next=15 held=[] numbers={N:0,M:0,I:0} strings={A:,C:,S1:,B:}\nstep 36: n=0 notes=1 split=- trials=0 in=0 out=2 state=running next=14 held=[] numbers={N:0,M:0,I:0} strings={A:,C:,S1:,B:}\nstep 37: n=0 notes=0 split=- trials=0 in=0 out=2 state=running next=15 held=[] numbers={N:0,M:0,I:0} strings={A:,C:,S1:,B:}\nstep 38: n=0 notes=1 split=- trials=0 in=0 out=2 state=running next=14 held=[] numbers={N:0,M:0,I:0} strings={A:,C:,S1:,B:}\nstep 39: n=0 notes=0 split=- trials=0 in=0 out=2 state=running next=15 held=[] numbers={N:0,M:0,I:0} strings={A:,C:,S1:,B:}\nstep 40: n=0 notes=1 split=- trials=0 in=0 out=2 state=running next=14 held=[] numbers={N:0,M:0,I:0} strings={A:,C:,S1:,B:}\nstep 41: n=0 notes=0 split=- trials=0 in=0 out=2 state=running next=15 held=[] numbers={N:0,M:0,I:0} strings={A:,C:,S1:,B:}\nstep 42: n=0 notes=1 split=- trials=0 in=0 out=2 state=running next=14 held=[] numbers={N:0,M:0,I:0} strings={A:,C:,S1:,B:}\nstep 43: n=0 notes=0 split=- trials=0 in=0 out=2 state=running next=15 held=[] numbers={N:0,M:0,I:0} strings={A:,C:,S1:,B:}\nstep 44: n=0 notes=1 split=- trials=0 in=0 out=2 state=running next=14 held=[] numbers={N:0,M:0,I:0} strings={A:,C:,S1:,B:}\nstep 45: n=0 notes=0 split=- trials=0 in=0 out=2 state=running next=15 held=[] numbers={N:0,M:0,I:0} strings={A:,C:,S1:,B:}\nstep 46: n=0 notes=1 split=- trials=0 in=0 out=2 state=running next=14 held=[] numbers={N:0,M:0,I:0} strings={A:,C:,S1:,B:}\nstep 47: n=0 notes=0 split=- trials=0 in=0 out=2 state=running next=15 held=[] numbers={N:0,M:0,I:0} strings={A:,C:,S1:,B:}\nstep 48: n=0 notes=1 split=- trials=0 in=0 out=2 state=running next=14 held=[] numbers={N:0,M:0,I:0} strings={A:,C:,S1:,B:}\nstep 49: n=0 notes=0 split=- trials=0 in=0 out=2 state=running next=15 held=[] numbers={N:0,M:0,I:0} strings={A:,C:,S1:,B:}\nstep 50: n=0 notes=1 split=- trials=0 in=0 out=2 state=running next=14 held=[] numbers={N:0,M:0,I:0} strings={A:,C:,S1:,B:}\nstep 51: n=0 notes=0 split=- trials=0 in=0 out=2 state=running next=15 held=[] numbers={N:0,M:0,I:0} strings={A:,C:,S1:,B:}\nstep 52: n=0 notes=1 split=- trials=0 in=0 out=2 state=running next=14 held=[] numbers={N:0,M:0,I:0} strings={A:,C:,S1:,B:}\nstep 53: n=0 notes=0 split=- trials=0 in=0 out=2 state=running next=15 held=[] numbers={N:0,M:0,I:0} strings={A:,C:,S1:,B:}\nstep 54: n=0 notes=1 split=- trials=0 in=0 out=2 state=running next=14 held=[] numbers={N:0,M:0,I:0} strings={A:,C:,S1:,B:}\nstep 55: n=0 notes=0 split=- trials=0 in=0 out=2 state=running next=15 held=[] numbers={N:0,M:0,I:0} strings={A:,C:,S1:,B:}\nstep 56: n=0 notes=1 split=- trials=0 in=0 out=2 state=running next=14 held=[] numbers={N:0,M:0,I:0} strings={A:,C:,S1:,B:}\nstep 57: n=0 notes=0 split=- trials=0 in=0 out=2 state=running next=15 held=[] numbers={N:0,M:0,I:0} strings={A:,C:,S1:,B:}\nstep 58: n=0 notes=1 split=- trials=0 in=0 out=2 state=running next=14 held=[] numbers={N:0,M:0,I:0} strings={A:,C:,S1:,B:}\nstep 59: n=0 notes=0 split=- trials=0 in=0 out=2 state=running next=15 held=[] numbers={N:0,M:0,I:0} strings={A:,C:,S1:,B:}\nstep 60: n=0 notes=1 split=- trials=0 in=0 out=2 state=running next=14 held=[] numbers={N:0,M:0,I:0} strings={A:,C:,S1:,B:}\n" ≡ true
unfolding agrees
v016 = refl

v017 : agrees "         PRO GRAM   TEST1                                               SEQ16831\n         NUMBER N\n L1      C =B$6,C,\"A A\"\nX9       F=\nL2       C=F$6\nLOOP     A=\",\",STRING(N,N)\nL3       S1$N= S1$6,ST R  I NG(N),\"22\",F\nDONE     END\n" "21 0,2\n" "step 1: n=0 notes=0 split=- trials=0 in=0 out=0 state=running next=4 held=[] numbers={N:0} strings={C:412041,B:,F:,A:,S1:}\nstep 2: n=0 notes=0 split=- trials=0 in=0 out=0 state=running next=5 held=[] numbers={N:0} strings={C:412041,B:,F:,A:,S1:}\nstep 3: n=0 notes=0 split=- trials=0 in=0 out=0 state=running next=6 held=[] numbers={N:0} strings={C:,B:,F:,A:,S1:}\nstep 4: n=0 notes=0 split=- trials=0 in=0 out=0 state=running next=7 held=[] numbers={N:0} strings={C:,B:,F:,A:2c30,S1:}\nstep 5: n=0 notes=0 split=- trials=0 in=0 out=0 state=running next=8 held=[] numbers={N:0} strings={C:,B:,F:,A:2c30,S1:303232}\nstep 6: n=0 notes=0 split=- trials=0 in=0 out=0 state=finished next=8 held=[] numbers={N:0} strings={C:,B:,F:,A:2c30,S1:303232}\n" ≡ true
unfolding agrees
v017 = refl

v018 : agrees "         P  ROGRAM TE S T1\n         NUM BER  N, M,  I\n         READ A\n         SCAN G[\"2B1B2\"]=\"1B,B  A1 ,,A\"/L2\n         EXECUTE R2\n         READ(60)  S  1$1/X9,L2\n         READ S1/  X9                                                   SEQ00096\n         ROUTINE R2 \n         G=STRING(I),S1\n         BACKSCAN A$I[\"\"\"]=\"3\",F\nL1       A=\"=-=A +A312=)\",\"AB\"\n         C$M=STRING(M,M),STRING(I),\"A,,\"\n         ENDROUTINE\n         BACKSCAN C$6[]/L3,L2\n* COMMENT 3\nL3       BACKSCAN TEXT  LONG[B,\" AB12A2 B,2A\",LINE]=\"B \",TEXTLONG  /X9\n         PRINT LINE,G\n   \n        +IF(NULL\n        C(G))/,L\n         2                                                              SEQ64080\n         ROUTINE R1\n LOOP    G=\", A\",S1\nDONE     END  RO  UTIN  E                                               SEQ77541\n         SCAN TEXTLONG$4[]=\"B\",\"2,21A\",S1,\"2BB\"/L2,L2\n        *I=+(-( LENG TH(TEXTLON G )/N*  N-L EN G TH(G)+  LEN GTH(LI  NE \n          )-N*8))*(LE NGTH(G )  )-I                                     SEQ67250\nX9       BACKSCAN C[STRING(9,I)]\nL2       A=LINE,G$5,STRING(N)\n        *IF(+0>=LENG                                                    SEQ61574\n        C TH(TEX  TL\n        *  ON G))/, \n          L3\n         END" "2A0A,-\n" "step 1: n=0 notes=0 split=- trials=0 in=7 out=0 state=running next=4 held=[] numbers={N:0,M:0,I:0} strings={A:324130412c2d,G:,S1:,F:,C:,TEXTLONG:,B:,LINE:}\nstep 2: n=0 notes=0 split=- trials=1 in=7 out=0 state=running next=5 held=[] numbers={N:0,M:0,I:0} strings={A:324130412c2d,G:,S1:,F:,C:,TEXTLONG:,B:,LINE:}\nstep 3: n=0 notes=0 split=- trials=0 in=7 out=0 state=running next=9 held=[6] numbers={N:0,M:0,I:0} strings={A:324130412c2d,G:,S1:,F:,C:,TEXTLONG:,B:,LINE:}\nstep 4: n=0 notes=0 split=- trials=0 in=7 out=0 state=running next=10 held=[6] numbers={N:0,M:0,I:0} strings={A:324130412c2d,G:30,S1:,F:,C:,TEXTLONG:,B:,LINE:}\nstep 5: n=0 notes=0 split=- trials=1 in=7 out=0 state=running next=11 held=[6] numbers={N:0,M:0,I:0} strings={A:324130412c2d,G:30,S1:,F:,C:,TEXTLONG:,B:,LINE:}\nstep 6: n=0 notes=0 split=- trials=0 in=7 out=0 state=running next=12 held=[6] numbers={N:0,M:0,I:0} strings={A:3d2d3d41202b413331323d294142,G:30,S1:,F:,C:,TEXTLONG:,B:,LINE:}\nstep 7: n=0 notes=0 split=- trials=0 in=7 out=0 state=running next=13 held=[6] numbers={N:0,M:0,I:0} strings={A:3d2d3d41202b413331323d294142,G:30,S1:,F:,C:3030412c2c,TEXTLONG:,B:,LINE:}\nstep 8: n=0 notes=0 split=- trials=0 in=7 out=0 state=running next=6 held=[] numbers={N:0,M:0,I:0} strings={A:3d2d3d41202b413331323d294142,G:30,S1:,F:,C:3030412c2c,TEXTLONG:,B:,LINE:}\nstep 9: n=0 notes=0 split=- trials=0 in=7 out=0 state=running next=29 held=[] numbers={N:0,M:0,I:0} strings={A:3d2d3d41202b413331323d294142,G:30,S1:,F:,C:3030412c2c,TEXTLONG:,B:,LINE:}\nstep 10: n=0 notes=0 split=- trials=0 in=7 out=0 state=running next=30 held=[] numbers={N:0,M:0,I:0} strings={A:3030,G:30,S1:,F:,C:3030412c2c,TEXTLONG:,B:,LINE:}\nstep 11: n=0 notes=0 split=- trials=0 in=7 out=0 state=running next=34 held=[] numbers={N:0,M:0,I:0} strings={A:3030,G:30,S1:,F:,C:3030412c2c,TEXTLONG:,B:,LINE:}\nstep 12: n=0 notes=0 split=- trials=0 in=7 out=0 state=finished next=34 held=[] numbers={N:0,M:0,I:0} strings={A:3030,G:30,S1:,F:,C:3030412c2c,TEXTLONG:,B:,LINE:}\n" ≡ true
unfolding agrees
v018 = refl

v019 : agrees "         PROGRAM LOTS                                                   SEQ95877\n         NUMBER N,M\nL1      *GO TO \n         L1\n         BACKSC  AN S1[STR  ING(N  ,M),\" 2B\",B$ N]/ ,LOOP\n         ROUTINE R1\nL3      *LINE=STRING(-5,\n         M),\"1\",B\n DONE    RETURN\nL2       ENDROUTINE                                                     SEQ10705\nLOOP     C$2=STRING(0  ,N),ST  RIN G(0,M) \nX9       END\n" "B\nA100A2B-  2+\n" "step 1: n=0 notes=0 split=- trials=0 in=0 out=0 state=running next=3 held=[] numbers={N:0,M:0} strings={S1:,B:,LINE:,C:}\nstep 2: n=0 notes=0 split=- trials=0 in=0 out=0 state=running next=3 held=[] numbers={N:0,M:0} strings={S1:,B:,LINE:,C:}\nstep 3: n=0 notes=0 split=- trials=0 in=0 out=0 state=running next=3 held=[] numbers={N:0,M:0} strings={S1:,B:,LINE:,C:}\nstep 4: n=0 notes=0 split=- trials=0 in=0 out=0 state=running next=3 held=[] numbers={N:0,M:0} strings={S1:,B:,LINE:,C:}\nstep 5: n=0 notes=0 split=- trials=0 in=0 out=0 state=running next=3 held=[] numbers={N:0,M:0} strings={S1:,B:,LINE:,C:}\nstep 6: n=0 notes=0 split=- trials=0 in=0 out=0 state=running next=3 held=[] numbers={N:0,M:0} strings={S1:,B:,LINE:,C:}\nstep 7: n=0 notes=0 split=- trials=0 in=0 out=0 state=running next=3 held=[] numbers={N:0,M:0} strings={S1:,B:,LINE:,C:}\nstep 8: n=0 notes=0 split=- trials=0 in=0 out=0 state=running next=3 held=[] numbers={N:0,M:0} strings={S1:,B:,LINE:,C:}\nstep 9: n=0 notes=0 split=- trials=0 in=0 out=0 state=running next=3 held=[] numbers={N:0,M:0} strings={S1:,B:,LINE:,C:}\nstep 10: n=0 notes=0 split=- trials=0 in=0 out=0 state=running next=3 held=[] numbers={N:0,M:0} strings={S1:,B:,LINE:,C:}\nstep 11: n=0 notes=0 split=- trials=0 in=0 out=0 state=running next=3 held=[] numbers={N:0,M:0} strings={S1:,B:,LINE:,C:}\nstep 12: n=0 notes=0 split=- trials=0 in=0 out=0 state=running next=3 held=[] numbers={N:0,M:0} strings={S1:,B:,LINE:,C:}\nstep 13: n=0 notes=0 split=- trials=0 in=0 out=0 state=running next=3 held=[] numbers={N:0,M:0} strings={S1:,B:,LINE:,C:}\nstep 14: n=0 notes=0 split=- trials=0 in=0 out=0 state=running next=3 held=[] numbers={N:0,M:0} strings={S1:,B:,LINE:,C:}\nstep 15: n=0 notes=0 split=- trials=0 in=0 out=0 state=running next=3 held=[] numbers={N:0,M:0} strings={S1:,B:,LINE:,C:}\nstep 16: n=0 notes=0 split=- trials=0 in=0 out=0 state=running next=3 held=[] numbers={N:0,M:0} strings={S1:,B:,LINE:,C:}\nstep 17: n=0 notes=0 split=- trials=0 in=0 out=0 state=running next=3 held=[] numbers={N:0,M:0} strings={S1:,B:,LINE:,C:}\nstep 18: n=0 notes=0 split=- trials=0 in=0 out=0 state=running next=3 held=[] numbers={N:0,M:0} strings={S1:,B:,LINE:,C:}\nstep 19: n=0 notes=0 split=- trials=0 in=0 out=0 state=running next=3 held=[] numbers={N:0,M:0} strings={S1:,B:,LINE:,C:}\nstep 20: n=0 notes=0 split=- trials=0 in=0 out=0 state=running next=3 held=[] numbers={N:0,M:0} strings={S1:,B:,LINE:,C:}\nstep 21: n=0 notes=0 split=- trials=0 in=0 out=0 state=running next=3 held=[] numbers={N:0,M:0} strings={S1:,B:,LINE:,C:}\nstep 22: n=0 notes=0 split=- trials=0 in=0 out=0 state=running next=3 held=[] numbers={N:0,M:0} strings={S1:,B:,LINE:,C:}\nstep 23: n=0 notes=0 split=- trials=0 in=0 out=0 state=running next=3 held=[] numbers={N:0,M:0} strings={S1:,B:,LINE:,C:}\nstep 24: n=0 notes=0 split=- trials=0 in=0 out=0 state=running next=3 held=[] numbers={N:0,M:0} strings={S1:,B:,LINE:,C:}\nstep 25: n=0 notes=0 split=- trials=0 in=0 out=0 state=running next=3 held=[] numbers={N:0,M:0} strings={S1:,B:,LINE:,C:}\nstep 26: n=0 notes=0 split=- trials=0 in=0 out=0 state=running next=3 held=[] numbers={N:0,M:0} strings={S1:,B:,LINE:,C:}\nstep 27: n=0 notes=0 split=- trials=0 in=0 out=0 state=running next=3 held=[] numbers={N:0,M:0} strings={S1:,B:,LINE:,C:}\nstep 28: n=0 notes=0 split=- trials=0 in=0 out=0 state=running next=3 held=[] numbers={N:0,M:0} strings={S1:,B:,LINE:,C:}\nstep 29: n=0 notes=0 split=- trials=0 in=0 out=0 state=running next=3 held=[] numbers={N:0,M:0} strings={S1:,B:,LINE:,C:}\nstep 30: n=0 notes=0 split=- trials=0 in=0 out=0 state=running next=3 held=[] numbers={N:0,M:0} strings={S1:,B:,LINE:,C:}\nstep 31: n=0 notes=0 split=- trials=0 in=0 out=0 state=running next=3 held=[] numbers={N:0,M:0} strings={S1:,B:,LINE:,C:}\nstep 32: n=0 notes=0 split=- trials=0 in=0 out=0 state=running next=3 held=[] numbers={N:0,M:0} strings={S1:,B:,LINE:,C:}\nstep 33: n=0 notes=0 split=- trials=0 in=0 out=0 state=running next=3 held=[] numbers={N:0,M:0} strings={S1:,B:,LINE:,C:}\nstep 34: n=0 notes=0 split=- trials=0 in=0 out=0 state=running next=3 held=[] numbers={N:0,M:0} strings={S1:,B:,LINE:,C:}\nstep 35: n=0 notes=0 split=- trials=0 in=0 out=0 state=running next=3 held=[] numbers={N:0,M:0} strings={S1:,B:,LINE:,C:}\nstep 36: n=0 notes=0 split=- trials=0 in=0 out=0 state=running next=3 held=[] numbers={N:0,M:0} strings={S1:,B:,LINE:,C:}\nstep 37: n=0 notes=0 split=- trials=0 in=0 out=0 state=running next=3 held=[] numbers={N:0,M:0} strings={S1:,B:,LINE:,C:}\nstep 38: n=0 notes=0 split=- trials=0 in=0 out=0 state=running next=3 held=[] numbers={N:0,M:0} strings={S1:,B:,LINE:,C:}\nstep 39: n=0 notes=0 split=- trials=0 in=0 out=0 state=running next=3 held=[] numbers={N:0,M:0} strings={S1:,B:,LINE:,C:}\nstep 40: n=0 notes=0 split=- trials=0 in=0 out=0 state=running next=3 held=[] numbers={N:0,M:0} strings={S1:,B:,LINE:,C:}\nstep 41: n=0 notes=0 split=- trials=0 in=0 out=0 state=running next=3 held=[] numbers={N:0,M:0} strings={S1:,B:,LINE:,C:}\nstep 42: n=0 notes=0 split=- trials=0 in=0 out=0 state=running next=3 held=[] numbers={N:0,M:0} strings={S1:,B:,LINE:,C:}\nstep 43: n=0 notes=0 split=- trials=0 in=0 out=0 state=running next=3 held=[] numbers={N:0,M:0} strings={S1:,B:,LINE:,C:}\nstep 44: n=0 notes=0 split=- trials=0 in=0 out=0 state=running next=3 held=[] numbers={N:0,M:0} strings={S1:,B:,LINE:,C:}\nstep 45: n=0 notes=0 split=- trials=0 in=0 out=0 state=running next=3 held=[] numbers={N:0,M:0} strings={S1:,B:,LINE:,C:}\nstep 46: n=0 notes=0 split=- trials=0 in=0 out=0 state=running next=3 held=[] numbers={N:0,M:0} strings={S1:,B:,LINE:,C:}\nstep 47: n=0 notes=0 split=- trials=0 in=0 out=0 state=running next=3 held=[] numbers={N:0,M:0} strings={S1:,B:,LINE:,C:}\nstep 48: n=0 notes=0 split=- trials=0 in=0 out=0 state=running next=3 held=[] numbers={N:0,M:0} strings={S1:,B:,LINE:,C:}\nstep 49: n=0 notes=0 split=- trials=0 in=0 out=0 state=running next=3 held=[] numbers={N:0,M:0} strings={S1:,B:,LINE:,C:}\nstep 50: n=0 notes=0 split=- trials=0 in=0 out=0 state=running next=3 held=[] numbers={N:0,M:0} strings={S1:,B:,LINE:,C:}\nstep 51: n=0 notes=0 split=- trials=0 in=0 out=0 state=running next=3 held=[] numbers={N:0,M:0} strings={S1:,B:,LINE:,C:}\nstep 52: n=0 notes=0 split=- trials=0 in=0 out=0 state=running next=3 held=[] numbers={N:0,M:0} strings={S1:,B:,LINE:,C:}\nstep 53: n=0 notes=0 split=- trials=0 in=0 out=0 state=running next=3 held=[] numbers={N:0,M:0} strings={S1:,B:,LINE:,C:}\nstep 54: n=0 notes=0 split=- trials=0 in=0 out=0 state=running next=3 held=[] numbers={N:0,M:0} strings={S1:,B:,LINE:,C:}\nstep 55: n=0 notes=0 split=- trials=0 in=0 out=0 state=running next=3 held=[] numbers={N:0,M:0} strings={S1:,B:,LINE:,C:}\nstep 56: n=0 notes=0 split=- trials=0 in=0 out=0 state=running next=3 held=[] numbers={N:0,M:0} strings={S1:,B:,LINE:,C:}\nstep 57: n=0 notes=0 split=- trials=0 in=0 out=0 state=running next=3 held=[] numbers={N:0,M:0} strings={S1:,B:,LINE:,C:}\nstep 58: n=0 notes=0 split=- trials=0 in=0 out=0 state=running next=3 held=[] numbers={N:0,M:0} strings={S1:,B:,LINE:,C:}\nstep 59: n=0 notes=0 split=- trials=0 in=0 out=0 state=running next=3 held=[] numbers={N:0,M:0} strings={S1:,B:,LINE:,C:}\nstep 60: n=0 notes=0 split=- trials=0 in=0 out=0 state=running next=3 held=[] numbers={N:0,M:0} strings={S1:,B:,LINE:,C:}\n" ≡ true
unfolding agrees
v019 = refl

v020 : agrees "         PROGRAM P\nSTART    N UMBER N,M,I\n         BAC  KSCAN     B$  6[  \"2\",(A$N),(  A$0)]=A \n L1      IF(NUM ERIC( A$1))/L1 \n         ROU TINE R1                                                    SEQ37074\n         I=NUMBER(A$N)                                                  SEQ72725\n         A$N=B$1                                                        SEQ82152\nX9       ENDROUTINE\n         B=\",11\"\n         BACKSCAN B[STRING(N,N)]=STRING(N,I),A\n         EXECUTE R2\n         M=+LENGTH(  A)\n         READ B/L1\n         ROUTINE R3\n* COMMENT 9\n L3      BACKSC  AN B[(A$1),\"12A ,\",(  A),(A$  000 2 )]                 SEQ26233\nDONE     ENDR  OUT INE\n         A$M=\"B B,A2BB A2A\",B, B,A$3  \n         A$I=\"BA2B,,2,21AA\"\n         GO TO  L1                                                      SEQ45544\n         S C AN B[  A,(A)]=B/L 1\n* COMMENT 2\n         I F(7=-2)/,L1\n         SCAN A$M[\",\",A]\n         ROUTINE R2 \nLOOP     GO  TO L2\nL2       E N DROUTINE\n         END\n" "" "step 1: n=0 notes=0 split=- trials=1 in=0 out=0 state=running next=4 held=[] numbers={N:0,M:0,I:0} strings={B:,A:}\nstep 2: n=0 notes=0 split=- trials=0 in=0 out=0 state=running next=5 held=[] numbers={N:0,M:0,I:0} strings={B:,A:}\nstep 3: n=0 notes=0 split=- trials=0 in=0 out=0 state=running next=9 held=[] numbers={N:0,M:0,I:0} strings={B:,A:}\nstep 4: n=0 notes=0 split=- trials=0 in=0 out=0 state=running next=10 held=[] numbers={N:0,M:0,I:0} strings={B:2c3131,A:}\nstep 5: n=0 notes=0 split=- trials=4 in=0 out=0 state=running next=11 held=[] numbers={N:0,M:0,I:0} strings={B:2c3131,A:}\nstep 6: n=0 notes=0 split=- trials=0 in=0 out=0 state=running next=26 held=[12] numbers={N:0,M:0,I:0} strings={B:2c3131,A:}\nstep 7: n=0 notes=0 split=- trials=0 in=0 out=0 state=running next=27 held=[12] numbers={N:0,M:0,I:0} strings={B:2c3131,A:}\nstep 8: n=0 notes=0 split=- trials=0 in=0 out=0 state=running next=12 held=[] numbers={N:0,M:0,I:0} strings={B:2c3131,A:}\nstep 9: n=0 notes=0 split=- trials=0 in=0 out=0 state=running next=13 held=[] numbers={N:0,M:0,I:0} strings={B:2c3131,A:}\nstep 10: n=0 notes=0 split=- trials=0 in=0 out=0 state=running next=14 held=[] numbers={N:0,M:0,I:0} strings={B:2c3131,A:}\nstep 11: n=0 notes=0 split=- trials=0 in=0 out=0 state=running next=18 held=[] numbers={N:0,M:0,I:0} strings={B:2c3131,A:}\nstep 12: n=0 notes=0 split=- trials=0 in=0 out=0 state=running next=19 held=[] numbers={N:0,M:0,I:0} strings={B:2c3131,A:4220422c41324242204132412c31312c3131}\nstep 13: n=0 notes=0 split=- trials=0 in=0 out=0 state=running next=20 held=[] numbers={N:0,M:0,I:0} strings={B:2c3131,A:424132422c2c322c323141414220422c41324242204132412c31312c3131}\nstep 14: n=0 notes=0 split=- trials=0 in=0 out=0 state=running next=4 held=[] numbers={N:0,M:0,I:0} strings={B:2c3131,A:424132422c2c322c323141414220422c41324242204132412c31312c3131}\nstep 15: n=0 notes=0 split=- trials=0 in=0 out=0 state=running next=5 held=[] numbers={N:0,M:0,I:0} strings={B:2c3131,A:424132422c2c322c323141414220422c41324242204132412c31312c3131}\nstep 16: n=0 notes=0 split=- trials=0 in=0 out=0 state=running next=9 held=[] numbers={N:0,M:0,I:0} strings={B:2c3131,A:424132422c2c322c323141414220422c41324242204132412c31312c3131}\nstep 17: n=0 notes=0 split=- trials=0 in=0 out=0 state=running next=10 held=[] numbers={N:0,M:0,I:0} strings={B:2c3131,A:424132422c2c322c323141414220422c41324242204132412c31312c3131}\nstep 18: n=0 notes=0 split=- trials=4 in=0 out=0 state=running next=11 held=[] numbers={N:0,M:0,I:0} strings={B:2c3131,A:424132422c2c322c323141414220422c41324242204132412c31312c3131}\nstep 19: n=0 notes=0 split=- trials=0 in=0 out=0 state=running next=26 held=[12] numbers={N:0,M:0,I:0} strings={B:2c3131,A:424132422c2c322c323141414220422c41324242204132412c31312c3131}\nstep 20: n=0 notes=0 split=- trials=0 in=0 out=0 state=running next=27 held=[12] numbers={N:0,M:0,I:0} strings={B:2c3131,A:424132422c2c322c323141414220422c41324242204132412c31312c3131}\nstep 21: n=0 notes=0 split=- trials=0 in=0 out=0 state=running next=12 held=[] numbers={N:0,M:0,I:0} strings={B:2c3131,A:424132422c2c322c323141414220422c41324242204132412c31312c3131}\nstep 22: n=0 notes=0 split=- trials=0 in=0 out=0 state=running next=13 held=[] numbers={N:0,M:30,I:0} strings={B:2c3131,A:424132422c2c322c323141414220422c41324242204132412c31312c3131}\nstep 23: n=0 notes=0 split=- trials=0 in=0 out=0 state=running next=14 held=[] numbers={N:0,M:30,I:0} strings={B:2c3131,A:424132422c2c322c323141414220422c41324242204132412c31312c3131}\nstep 24: n=0 notes=0 split=- trials=0 in=0 out=0 state=running next=18 held=[] numbers={N:0,M:30,I:0} strings={B:2c3131,A:424132422c2c322c323141414220422c41324242204132412c31312c3131}\nstep 25: n=0 notes=0 split=- trials=0 in=0 out=0 state=running next=19 held=[] numbers={N:0,M:30,I:0} strings={B:2c3131,A:4220422c41324242204132412c31312c3131424132}\nstep 26: n=0 notes=0 split=- trials=0 in=0 out=0 state=running next=20 held=[] numbers={N:0,M:30,I:0} strings={B:2c3131,A:424132422c2c322c323141414220422c41324242204132412c31312c3131424132}\nstep 27: n=0 notes=0 split=- trials=0 in=0 out=0 state=running next=4 held=[] numbers={N:0,M:30,I:0} strings={B:2c3131,A:424132422c2c322c323141414220422c41324242204132412c31312c3131424132}\nstep 28: n=0 notes=0 split=- trials=0 in=0 out=0 state=running next=5 held=[] numbers={N:0,M:30,I:0} strings={B:2c3131,A:424132422c2c322c323141414220422c41324242204132412c31312c3131424132}\nstep 29: n=0 notes=0 split=- trials=0 in=0 out=0 state=running next=9 held=[] numbers={N:0,M:30,I:0} strings={B:2c3131,A:424132422c2c322c323141414220422c41324242204132412c31312c3131424132}\nstep 30: n=0 notes=0 split=- trials=0 in=0 out=0 state=running next=10 held=[] numbers={N:0,M:30,I:0} strings={B:2c3131,A:424132422c2c322c323141414220422c41324242204132412c31312c3131424132}\nstep 31: n=0 notes=0 split=- trials=4 in=0 out=0 state=running next=11 held=[] numbers={N:0,M:30,I:0} strings={B:2c3131,A:424132422c2c322c323141414220422c41324242204132412c31312c3131424132}\nstep 32: n=0 notes=0 split=- trials=0 in=0 out=0 state=running next=26 held=[12] numbers={N:0,M:30,I:0} strings={B:2c3131,A:424132422c2c322c323141414220422c41324242204132412c31312c3131424132}\nstep 33: n=0 notes=0 split=- trials=0 in=0 out=0 state=running next=27 held=[12] numbers={N:0,M:30,I:0} strings={B:2c3131,A:424132422c2c322c323141414220422c41324242204132412c31312c3131424132}\nstep 34: n=0 notes=0 split=- trials=0 in=0 out=0 state=running next=12 held=[] numbers={N:0,M:30,I:0} strings={B:2c3131,A:424132422c2c322c323141414220422c41324242204132412c31312c3131424132}\nstep 35: n=0 notes=0 split=- trials=0 in=0 out=0 state=running next=13 held=[] numbers={N:0,M:33,I:0} strings={B:2c3131,A:424132422c2c322c323141414220422c41324242204132412c31312c3131424132}\nstep 36: n=0 notes=0 split=- trials=0 in=0 out=0 state=running next=14 held=[] numbers={N:0,M:33,I:0} strings={B:2c3131,A:424132422c2c322c323141414220422c41324242204132412c31312c3131424132}\nstep 37: n=0 notes=0 split=- trials=0 in=0 out=0 state=running next=18 held=[] numbers={N:0,M:33,I:0} strings={B:2c3131,A:424132422c2c322c323141414220422c41324242204132412c31312c3131424132}\nstep 38: n=0 notes=0 split=- trials=0 in=0 out=0 state=running next=19 held=[] numbers={N:0,M:33,I:0} strings={B:2c3131,A:4220422c41324242204132412c31312c3131424132}\nstep 39: n=0 notes=0 split=- trials=0 in=0 out=0 state=running next=20 held=[] numbers={N:0,M:33,I:0} strings={B:2c3131,A:424132422c2c322c323141414220422c41324242204132412c31312c3131424132}\nstep 40: n=0 notes=0 split=- trials=0 in=0 out=0 state=running next=4 held=[] numbers={N:0,M:33,I:0} strings={B:2c3131,A:424132422c2c322c323141414220422c41324242204132412c31312c3131424132}\nstep 41: n=0 notes=0 split=- trials=0 in=0 out=0 state=running next=5 held=[] numbers={N:0,M:33,I:0} strings={B:2c3131,A:424132422c2c322c323141414220422c41324242204132412c31312c3131424132}\nstep 42: n=0 notes=0 split=- trials=0 in=0 out=0 state=running next=9 held=[] numbers={N:0,M:33,I:0} strings={B:2c3131,A:424132422c2c322c323141414220422c41324242204132412c31312c3131424132}\nstep 43: n=0 notes=0 split=- trials=0 in=0 out=0 state=running next=10 held=[] numbers={N:0,M:33,I:0} strings={B:2c3131,A:424132422c2c322c323141414220422c41324242204132412c31312c3131424132}\nstep 44: n=0 notes=0 split=- trials=4 in=0 out=0 state=running next=11 held=[] numbers={N:0,M:33,I:0} strings={B:2c3131,A:424132422c2c322c323141414220422c41324242204132412c31312c3131424132}\nstep 45: n=0 notes=0 split=- trials=0 in=0 out=0 state=running next=26 held=[12] numbers={N:0,M:33,I:0} strings={B:2c3131,A:424132422c2c322c323141414220422c41324242204132412c31312c3131424132}\nstep 46: n=0 notes=0 split=- trials=0 in=0 out=0 state=running next=27 held=[12] numbers={N:0,M:33,I:0} strings={B:2c3131,A:424132422c2c322c323141414220422c41324242204132412c31312c3131424132}\nstep 47: n=0 notes=0 split=- trials=0 in=0 out=0 state=running next=12 held=[] numbers={N:0,M:33,I:0} strings={B:2c3131,A:424132422c2c322c323141414220422c41324242204132412c31312c3131424132}\nstep 48: n=0 notes=0 split=- trials=0 in=0 out=0 state=running next=13 held=[] numbers={N:0,M:33,I:0} strings={B:2c3131,A:424132422c2c322c323141414220422c41324242204132412c31312c3131424132}\nstep 49: n=0 notes=0 split=- trials=0 in=0 out=0 state=running next=14 held=[] numbers={N:0,M:33,I:0} strings={B:2c3131,A:424132422c2c322c323141414220422c41324242204132412c31312c3131424132}\nstep 50: n=0 notes=0 split=- trials=0 in=0 out=0 state=running next=18 held=[] numbers={N:0,M:33,I:0} strings={B:2c3131,A:424132422c2c322c323141414220422c41324242204132412c31312c3131424132}\nstep 51: n=0 notes=0 split=- trials=0 in=0 out=0 state=running next=19 held=[] numbers={N:0,M:33,I:0} strings={B:2c3131,A:4220422c41324242204132412c31312c3131424132}\nstep 52: n=0 notes=0 split=- trials=0 in=0 out=0 state=running next=20 held=[] numbers={N:0,M:33,I:0} strings={B:2c3131,A:424132422c2c322c323141414220422c41324242204132412c31312c3131424132}\nstep 53: n=0 notes=0 split=- trials=0 in=0 out=0 state=running next=4 held=[] numbers={N:0,M:33,I:0} strings={B:2c3131,A:424132422c2c322c323141414220422c41324242204132412c31312c3131424132}\nstep 54: n=0 notes=0 split=- trials=0 in=0 out=0 state=running next=5 held=[] numbers={N:0,M:33,I:0} strings={B:2c3131,A:424132422c2c322c323141414220422c41324242204132412c31312c3131424132}\nstep 55: n=0 notes=0 split=- trials=0 in=0 out=0 state=running next=9 held=[] numbers={N:0,M:33,I:0} strings={B:2c3131,A:424132422c2c322c323141414220422c41324242204132412c31312c3131424132}\nstep 56: n=0 notes=0 split=- trials=0 in=0 out=0 state=running next=10 held=[] numbers={N:0,M:33,I:0} strings={B:2c3131,A:424132422c2c322c323141414220422c41324242204132412c31312c3131424132}\nstep 57: n=0 notes=0 split=- trials=4 in=0 out=0 state=running next=11 held=[] numbers={N:0,M:33,I:0} strings={B:2c3131,A:424132422c2c322c323141414220422c41324242204132412c31312c3131424132}\nstep 58: n=0 notes=0 split=- trials=0 in=0 out=0 state=running next=26 held=[12] numbers={N:0,M:33,I:0} strings={B:2c3131,A:424132422c2c322c323141414220422c41324242204132412c31312c3131424132}\nstep 59: n=0 notes=0 split=- trials=0 in=0 out=0 state=running next=27 held=[12] numbers={N:0,M:33,I:0} strings={B:2c3131,A:424132422c2c322c323141414220422c41324242204132412c31312c3131424132}\nstep 60: n=0 notes=0 split=- trials=0 in=0 out=0 state=running next=12 held=[] numbers={N:0,M:33,I:0} strings={B:2c3131,A:424132422c2c322c323141414220422c41324242204132412c31312c3131424132}\n" ≡ true
unfolding agrees
v020 = refl

v021 : agrees "         PROGRAM TEST1\n         NUMBER N\n         PRINT B$4\nDONE     N=N+N/LENGTH(C)* 4972886\n         N=8007715\n         READ B/L1\n         B=STRING(N),A\n         C=\n         BACKSCAN B$0[B]=\"B\"/LOOP,LOOP\n         R O UTIN  E  R1\nX9       A$6= C\n* COMMENT 8\n         B$4=\"BA \",\"2\"\n         END  ROUTINE\nLOOP     GOTO L3\nL1       BACK SCAN B$6  [(C),(C$3),(A$ 3)]=\"1\",  C$6/L  OOP\nL3       GO TO L3                                                       SEQ71226\n         BACKSCAN C$2[(B$N),\"B AAA\"]=B,\",/B\"\nL2       C=B,C$1,STRING(-5,N),B\n         END\n" "\nA 12A1 A+1A1-AA-A -BA A++02B--+  0,+AA-A\nA21\n0\n\n1\nB++B+ A+A AB2A,21A20+ 21A2A-102 2,A0 + B\n\n" "step 1: n=0 notes=0 split=- trials=0 in=0 out=0 state=running next=4 held=[] numbers={N:0} strings={B:,C:,A:}\nstep 2: n=18 notes=0 split=- trials=0 in=0 out=0 state=stopped next=4 held=[] numbers={N:0} strings={B:,C:,A:}\n" ≡ true
unfolding agrees
v021 = refl

v022 : agrees "         PROGRAM TEST1\n         NUMBER    N,M,I, K9  ,COUNT  \n         G=S1$3,B,B,\"0A\"\n L1      A$M=\"B\"\n         ROUTINE R3\n DONE   *IF(  I  =M) /\n         DONE                                                           SEQ76066\n         IF(LENGTH(C)=LENGTH(A))/DONE,DONE\n                                                                        SEQ\n         ENDROUTINE\n* COMMENT 8\n LOOP    ROUTINE R2\n* COMMENT 9\n         IF(NULL(F))/L3,L3\n         F=\"+/)\",\",,\",STRING(0,N), \"B\"\n         I=-NUMBER(TEXTLONG)\n* COMMENT 2\n         PRINT(61)\nL3       ENDROUTINE\n         IF(-0<7)/L1, X9                                                SEQ53977\n X9      ROUTINE R1\n         READ S1/,L2\nL2       READ G/L2\n         PRI NT  \"B, 2 , AA1A,\",TEX TLONG,\"A\"\n         ENDROUTINE\n         END\n" " A \n+\n-A 0A+A AA,A\n\n\n,01\n0,0A,-\n-,02A \n" "step 1: n=0 notes=0 split=- trials=0 in=0 out=0 state=running next=4 held=[] numbers={N:0,M:0,I:0,K9:0,COUNT:0} strings={G:3041,S1:,B:,A:,C:,F:,TEXTLONG:}\nstep 2: n=0 notes=0 split=- trials=0 in=0 out=0 state=running next=5 held=[] numbers={N:0,M:0,I:0,K9:0,COUNT:0} strings={G:3041,S1:,B:,A:42,C:,F:,TEXTLONG:}\nstep 3: n=0 notes=0 split=- trials=0 in=0 out=0 state=running next=12 held=[] numbers={N:0,M:0,I:0,K9:0,COUNT:0} strings={G:3041,S1:,B:,A:42,C:,F:,TEXTLONG:}\nstep 4: n=0 notes=0 split=- trials=0 in=0 out=0 state=running next=20 held=[] numbers={N:0,M:0,I:0,K9:0,COUNT:0} strings={G:3041,S1:,B:,A:42,C:,F:,TEXTLONG:}\nstep 5: n=0 notes=0 split=- trials=0 in=0 out=0 state=running next=4 held=[] numbers={N:0,M:0,I:0,K9:0,COUNT:0} strings={G:3041,S1:,B:,A:42,C:,F:,TEXTLONG:}\nstep 6: n=0 notes=0 split=- trials=0 in=0 out=0 state=running next=5 held=[] numbers={N:0,M:0,I:0,K9:0,COUNT:0} strings={G:3041,S1:,B:,A:4242,C:,F:,TEXTLONG:}\nstep 7: n=0 notes=0 split=- trials=0 in=0 out=0 state=running next=12 held=[] numbers={N:0,M:0,I:0,K9:0,COUNT:0} strings={G:3041,S1:,B:,A:4242,C:,F:,TEXTLONG:}\nstep 8: n=0 notes=0 split=- trials=0 in=0 out=0 state=running next=20 held=[] numbers={N:0,M:0,I:0,K9:0,COUNT:0} strings={G:3041,S1:,B:,A:4242,C:,F:,TEXTLONG:}\nstep 9: n=0 notes=0 split=- trials=0 in=0 out=0 state=running next=4 held=[] numbers={N:0,M:0,I:0,K9:0,COUNT:0} strings={G:3041,S1:,B:,A:4242,C:,F:,TEXTLONG:}\nstep 10: n=0 notes=0 split=- trials=0 in=0 out=0 state=running next=5 held=[] numbers={N:0,M:0,I:0,K9:0,COUNT:0} strings={G:3041,S1:,B:,A:424242,C:,F:,TEXTLONG:}\nstep 11: n=0 notes=0 split=- trials=0 in=0 out=0 state=running next=12 held=[] numbers={N:0,M:0,I:0,K9:0,COUNT:0} strings={G:3041,S1:,B:,A:424242,C:,F:,TEXTLONG:}\nstep 12: n=0 notes=0 split=- trials=0 in=0 out=0 state=running next=20 held=[] numbers={N:0,M:0,I:0,K9:0,COUNT:0} strings={G:3041,S1:,B:,A:424242,C:,F:,TEXTLONG:}\nstep 13: n=0 notes=0 split=- trials=0 in=0 out=0 state=running next=4 held=[] numbers={N:0,M:0,I:0,K9:0,COUNT:0} strings={G:3041,S1:,B:,A:424242,C:,F:,TEXTLONG:}\nstep 14: n=0 notes=0 split=- trials=0 in=0 out=0 state=running next=5 held=[] numbers={N:0,M:0,I:0,K9:0,COUNT:0} strings={G:3041,S1:,B:,A:42424242,C:,F:,TEXTLONG:}\nstep 15: n=0 notes=0 split=- trials=0 in=0 out=0 state=running next=12 held=[] numbers={N:0,M:0,I:0,K9:0,COUNT:0} strings={G:3041,S1:,B:,A:42424242,C:,F:,TEXTLONG:}\nstep 16: n=0 notes=0 split=- trials=0 in=0 out=0 state=running next=20 held=[] numbers={N:0,M:0,I:0,K9:0,COUNT:0} strings={G:3041,S1:,B:,A:42424242,C:,F:,TEXTLONG:}\nstep 17: n=0 notes=0 split=- trials=0 in=0 out=0 state=running next=4 held=[] numbers={N:0,M:0,I:0,K9:0,COUNT:0} strings={G:3041,S1:,B:,A:42424242,C:,F:,TEXTLONG:}\nstep 18: n=0 notes=0 split=- trials=0 in=0 out=0 state=running next=5 held=[] numbers={N:0,M:0,I:0,K9:0,COUNT:0} strings={G:3041,S1:,B:,A:4242424242,C:,F:,TEXTLONG:}\nstep 19: n=0 notes=0 split=- trials=0 in=0 out=0 state=running next=12 held=[] numbers={N:0,M:0,I:0,K9:0,COUNT:0} strings={G:3041,S1:,B:,A:4242424242,C:,F:,TEXTLONG:}\nstep 20: n=0 notes=0 split=- trials=0 in=0 out=0 state=running next=20 held=[] numbers={N:0,M:0,I:0,K9:0,COUNT:0} strings={G:3041,S1:,B:,A:4242424242,C:,F:,TEXTLONG:}\nstep 21: n=0 notes=0 split=- trials=0 in=0 out=0 state=running next=4 held=[] numbers={N:0,M:0,I:0,K9:0,COUNT:0} strings={G:3041,S1:,B:,A:4242424242,C:,F:,TEXTLONG:}\nstep 22: n=0 notes=0 split=- trials=0 in=0 out=0 state=running next=5 held=[] numbers={N:0,M:0,I:0,K9:0,COUNT:0} strings={G:3041,S1:,B:,A:424242424242,C:,F:,TEXTLONG:}\nstep 23: n=0 notes=0 split=- trials=0 in=0 out=0 state=running next=12 held=[] numbers={N:0,M:0,I:0,K9:0,COUNT:0} strings={G:3041,S1:,B:,A:424242424242,C:,F:,TEXTLONG:}\nstep 24: n=0 notes=0 split=- trials=0 in=0 out=0 state=running next=20 held=[] numbers={N:0,M:0,I:0,K9:0,COUNT:0} strings={G:3041,S1:,B:,A:424242424242,C:,F:,TEXTLONG:}\nstep 25: n=0 notes=0 split=- trials=0 in=0 out=0 state=running next=4 held=[] numbers={N:0,M:0,I:0,K9:0,COUNT:0} strings={G:3041,S1:,B:,A:424242424242,C:,F:,TEXTLONG:}\nstep 26: n=0 notes=0 split=- trials=0 in=0 out=0 state=running next=5 held=[] numbers={N:0,M:0,I:0,K9:0,COUNT:0} strings={G:3041,S1:,B:,A:42424242424242,C:,F:,TEXTLONG:}\nstep 27: n=0 notes=0 split=- trials=0 in=0 out=0 state=running next=12 held=[] numbers={N:0,M:0,I:0,K9:0,COUNT:0} strings={G:3041,S1:,B:,A:42424242424242,C:,F:,TEXTLONG:}\nstep 28: n=0 notes=0 split=- trials=0 in=0 out=0 state=running next=20 held=[] numbers={N:0,M:0,I:0,K9:0,COUNT:0} strings={G:3041,S1:,B:,A:42424242424242,C:,F:,TEXTLONG:}\nstep 29: n=0 notes=0 split=- trials=0 in=0 out=0 state=running next=4 held=[] numbers={N:0,M:0,I:0,K9:0,COUNT:0} strings={G:3041,S1:,B:,A:42424242424242,C:,F:,TEXTLONG:}\nstep 30: n=0 notes=0 split=- trials=0 in=0 out=0 state=running next=5 held=[] numbers={N:0,M:0,I:0,K9:0,COUNT:0} strings={G:3041,S1:,B:,A:4242424242424242,C:,F:,TEXTLONG:}\nstep 31: n=0 notes=0 split=- trials=0 in=0 out=0 state=running next=12 held=[] numbers={N:0,M:0,I:0,K9:0,COUNT:0} strings={G:3041,S1:,B:,A:4242424242424242,C:,F:,TEXTLONG:}\nstep 32: n=0 notes=0 split=- trials=0 in=0 out=0 state=running next=20 held=[] numbers={N:0,M:0,I:0,K9:0,COUNT:0} strings={G:3041,S1:,B:,A:4242424242424242,C:,F:,TEXTLONG:}\nstep 33: n=0 notes=0 split=- trials=0 in=0 out=0 state=running next=4 held=[] numbers={N:0,M:0,I:0,K9:0,COUNT:0} strings={G:3041,S1:,B:,A:4242424242424242,C:,F:,TEXTLONG:}\nstep 34: n=0 notes=0 split=- trials=0 in=0 out=0 state=running next=5 held=[] numbers={N:0,M:0,I:0,K9:0,COUNT:0} strings={G:3041,S1:,B:,A:424242424242424242,C:,F:,TEXTLONG:}\nstep 35: n=0 notes=0 split=- trials=0 in=0 out=0 state=running next=12 held=[] numbers={N:0,M:0,I:0,K9:0,COUNT:0} strings={G:3041,S1:,B:,A:424242424242424242,C:,F:,TEXTLONG:}\nstep 36: n=0 notes=0 split=- trials=0 in=0 out=0 state=running next=20 held=[] numbers={N:0,M:0,I:0,K9:0,COUNT:0} strings={G:3041,S1:,B:,A:424242424242424242,C:,F:,TEXTLONG:}\nstep 37: n=0 notes=0 split=- trials=0 in=0 out=0 state=running next=4 held=[] numbers={N:0,M:0,I:0,K9:0,COUNT:0} strings={G:3041,S1:,B:,A:424242424242424242,C:,F:,TEXTLONG:}\nstep 38: n=0 notes=0 split=- trials=0 in=0 out=0 state=running next=5 held=[] numbers={N:0,M:0,I:0,K9:0,COUNT:0} strings={G:3041,S1:,B:,A:42424242424242424242,C:,F:,TEXTLONG:}\nstep 39: n=0 notes=0 split=- trials=0 in=0 out=0 state=running next=12 held=[] numbers={N:0,M:0,I:0,K9:0,COUNT:0} strings={G:3041,S1:,B:,A:42424242424242424242,C:,F:,TEXTLONG:}\nstep 40: n=0 notes=0 split=- trials=0 in=0 out=0 state=running next=20 held=[] numbers={N:0,M:0,I:0,K9:0,COUNT:0} strings={G:3041,S1:,B:,A:42424242424242424242,C:,F:,TEXTLONG:}\nstep 41: n=0 notes=0 split=- trials=0 in=0 out=0 state=running next=4 held=[] numbers={N:0,M:0,I:0,K9:0,COUNT:0} strings={G:3041,S1:,B:,A:42424242424242424242,C:,F:,TEXTLONG:}\nstep 42: n=0 notes=0 split=- trials=0 in=0 out=0 state=running next=5 held=[] numbers={N:0,M:0,I:0,K9:0,COUNT:0} strings={G:3041,S1:,B:,A:4242424242424242424242,C:,F:,TEXTLONG:}\nstep 43: n=0 notes=0 split=- trials=0 in=0 out=0 state=running next=12 held=[] numbers={N:0,M:0,I:0,K9:0,COUNT:0} strings={G:3041,S1:,B:,A:4242424242424242424242,C:,F:,TEXTLONG:}\nstep 44: n=0 notes=0 split=- trials=0 in=0 out=0 state=running next=20 held=[] numbers={N:0,M:0,I:0,K9:0,COUNT:0} strings={G:3041,S1:,B:,A:4242424242424242424242,C:,F:,TEXTLONG:}\nstep 45: n=0 notes=0 split=- trials=0 in=0 out=0 state=running next=4 held=[] numbers={N:0,M:0,I:0,K9:0,COUNT:0} strings={G:3041,S1:,B:,A:4242424242424242424242,C:,F:,TEXTLONG:}\nstep 46: n=0 notes=0 split=- trials=0 in=0 out=0 state=running next=5 held=[] numbers={N:0,M:0,I:0,K9:0,COUNT:0} strings={G:3041,S1:,B:,A:424242424242424242424242,C:,F:,TEXTLONG:}\nstep 47: n=0 notes=0 split=- trials=0 in=0 out=0 state=running next=12 held=[] numbers={N:0,M:0,I:0,K9:0,COUNT:0} strings={G:3041,S1:,B:,A:424242424242424242424242,C:,F:,TEXTLONG:}\nstep 48: n=0 notes=0 split=- trials=0 in=0 out=0 state=running next=20 held=[] numbers={N:0,M:0,I:0,K9:0,COUNT:0} strings={G:3041,S1:,B:,A:424242424242424242424242,C:,F:,TEXTLONG:}\nstep 49: n=0 notes=0 split=- trials=0 in=0 out=0 state=running next=4 held=[] numbers={N:0,M:0,I:0,K9:0,COUNT:0} strings={G:3041,S1:,B:,A:424242424242424242424242,C:,F:,TEXTLONG:}\nstep 50: n=0 notes=0 split=- trials=0 in=0 out=0 state=running next=5 held=[] numbers={N:0,M:0,I:0,K9:0,COUNT:0} strings={G:3041,S1:,B:,A:42424242424242424242424242,C:,F:,TEXTLONG:}\nstep 51: n=0 notes=0 split=- trials=0 in=0 out=0 state=running next=12 held=[] numbers={N:0,M:0,I:0,K9:0,COUNT:0} strings={G:3041,S1:,B:,A:42424242424242424242424242,C:,F:,TEXTLONG:}\nstep 52: n=0 notes=0 split=- trials=0 in=0 out=0 state=running next=20 held=[] numbers={N:0,M:0,I:0,K9:0,COUNT:0} strings={G:3041,S1:,B:,A:42424242424242424242424242,C:,F:,TEXTLONG:}\nstep 53: n=0 notes=0 split=- trials=0 in=0 out=0 state=running next=4 held=[] numbers={N:0,M:0,I:0,K9:0,COUNT:0} strings={G:3041,S1:,B:,A:42424242424242424242424242,C:,F:,TEXTLONG:}\nstep 54: n=0 notes=0 split=- trials=0 in=0 out=0 state=running next=5 held=[] numbers={N:0,M:0,I:0,K9:0,COUNT:0} strings={G:3041,S1:,B:,A:4242424242424242424242424242,C:,F:,TEXTLONG:}\nstep 55: n=0 notes=0 split=- trials=0 in=0 out=0 state=running next=12 held=[] numbers={N:0,M:0,I:0,K9:0,COUNT:0} strings={G:3041,S1:,B:,A:4242424242424242424242424242,C:,F:,TEXTLONG:}\nstep 56: n=0 notes=0 split=- trials=0 in=0 out=0 state=running next=20 held=[] numbers={N:0,M:0,I:0,K9:0,COUNT:0} strings={G:3041,S1:,B:,A:4242424242424242424242424242,C:,F:,TEXTLONG:}\nstep 57: n=0 notes=0 split=- trials=0 in=0 out=0 state=running next=4 held=[] numbers={N:0,M:0,I:0,K9:0,COUNT:0} strings={G:3041,S1:,B:,A:4242424242424242424242424242,C:,F:,TEXTLONG:}\nstep 58: n=0 notes=0 split=- trials=0 in=0 out=0 state=running next=5 held=[] numbers={N:0,M:0,I:0,K9:0,COUNT:0} strings={G:3041,S1:,B:,A:424242424242424242424242424242,C:,F:,TEXTLONG:}\nstep 59: n=0 notes=0 split=- trials=0 in=0 out=0 state=running next=12 held=[] numbers={N:0,M:0,I:0,K9:0,COUNT:0} strings={G:3041,S1:,B:,A:424242424242424242424242424242,C:,F:,TEXTLONG:}\nstep 60: n=0 notes=0 split=- trials=0 in=0 out=0 state=running next=20 held=[] numbers={N:0,M:0,I:0,K9:0,COUNT:0} strings={G:3041,S1:,B:,A:424242424242424242424242424242,C:,F:,TEXTLONG:}\n" ≡ true
unfolding agrees
v022 = refl

v023 : agrees "         PROG R  AM LOTS\n         NUMBER N,M  ,I,K 9\n         SCAN S1[(TEXTLONG$M)]=/LOOP                                    SEQ43293\nL3       F  =C$K9,\"AB0B*\"\n         WRITE TEXTLONG,STRING(I,I)                                     SEQ88976\n X9      LINE=STRING(I)\nLOOP    1BACKSCAN B$I[STRING(I),\"11,21  2,2 1\",(TEXTLONG$2),STRING(N),(A\n         )]/L3,L2                                                       SEQ58837\nL2       LINE=\",A1AA1,,1AA \"\nDONE     E N  D\n" "" "step 1: n=0 notes=0 split=0;0 trials=1 in=0 out=0 state=running next=7 held=[] numbers={N:0,M:0,I:0,K9:0} strings={S1:,TEXTLONG:,F:,C:,LINE:,B:,A:}\nstep 2: n=0 notes=0 split=- trials=1 in=0 out=0 state=running next=9 held=[] numbers={N:0,M:0,I:0,K9:0} strings={S1:,TEXTLONG:,F:,C:,LINE:,B:,A:}\nstep 3: n=0 notes=0 split=- trials=0 in=0 out=0 state=running next=10 held=[] numbers={N:0,M:0,I:0,K9:0} strings={S1:,TEXTLONG:,F:,C:,LINE:2c41314141312c2c31414120,B:,A:}\nstep 4: n=0 notes=0 split=- trials=0 in=0 out=0 state=finished next=10 held=[] numbers={N:0,M:0,I:0,K9:0} strings={S1:,TEXTLONG:,F:,C:,LINE:2c41314141312c2c31414120,B:,A:}\n" ≡ true
unfolding agrees
v023 = refl

v024 : agrees "         PROGRAM LOTS\n         NUMBER N,M,  I\n         W RITE \"$\"\n         N=005/I+(M+M*2-3439296)+M+LENGTH(A)\n         EXECUTE  R1  \n         EXECUTE R1\n DONE    PRINT(61) A\n LOOP    BACKSCAN B$6[(A$3)]/,L3\n* COMMENT 9\n         M=3*N+N\n         PRINT \n X9      RO UTIN E R1\n         READ A/L3,L3                                                   SEQ01812\nL1       A=STRING(I)\n L3      ENDROUTINE\nL2       IF(I>=5)/,DONE\n         B=A,\"BA  A\"\n         END\n" "+-+\n \n" "REFUSED 11 0\n" ≡ true
unfolding agrees
v024 = refl

v025 : agrees "         PROGRAM TEST1\n         NUMBER N,M,I,K9,COUNT\n* COMMENT 6\n         N=COUNT\n        *BACKSCAN B[\"B1\",TEXTLONG,A,(TEXTLONG),(TEXTLONG),(C),STRING(N)]\n IGNORED =STRING(-4,M)/,DONE\n X9      N=1239\n         K9=5*(+9)\nLOOP     READ A/LOOP\nDONE    XB=C,STRING(0,C\n        COUNT),STRING(M\n         )\n        1IF(NUMBER(A)<\n         >-8)/DONE\n         RO  U  TI N E R1\nL2       WRITE TEXTLONG\nL1       M=N/(N*(1*(10)*112+NUMBER(G))+LENGTH(C))*LENGTH(TEXTLONG)\n         ENDROUTINE\n         READ(60) S1$N/,L3\n         END\n" "" "REFUSED 11 0\n" ≡ true
unfolding agrees
v025 = refl

v026 : agrees "         PROGRAM P                                                      SEQ61308\n         NU MBER   N ,M\nLOOP     EXECUTE R2                                                     SEQ14232\n         READ A$5/LOOP\n         M=N  +N*(  1777)  \n         SCAN C$0[(A$N),\"2\",(B$1),S1]\nDONE     ROUTINE R3\n         M=0\n         IF(NULL(B))/L3,L3\n         C=\"AB,\"\nL3       C $3=\"2\"\n         EN DROUT INE\n         WRITE \") \"\n         ROUTINE R2\n* COMMENT 5\n         S1=\nX9      +M=((NUMBER(S1))*2*2*LENGTH(S1)+1699-(LENGTH(A)/(5*LENGTH(A)+LEN\n         GTH(S1)))-1-(N)+339*(+M*(+0)-LENGTH(LINE)))-NUMBER(A$5)\n         IF(LENGTH(B)<=N)/X9\n         ENDROUTINE\n         IF(M<=-8)/,DONE\n         IF(NUMBER(  S1)<=-3)  /,DONE\n         ROUTINE R1\nL1       N=(N/6517203*M*(1*LENGTH(LINE)-LENGTH(B)-2))*M+N\nL2       ENDROUTINE\n         END\n" ",02BA 20A,2A00+1AA,0-,2 1,1,-BB0AA21-2,B\nB\n-22- ,AA100A\n022A 2AA01 0A0-2-20-,AA10, 2-BA+ -B00A,+\n\nBAAA+10+2,+2\n0\n\n" "step 1: n=0 notes=0 split=- trials=0 in=0 out=0 state=running next=16 held=[4] numbers={N:0,M:0} strings={A:,C:,B:,S1:,LINE:}\nstep 2: n=0 notes=0 split=- trials=0 in=0 out=0 state=running next=17 held=[4] numbers={N:0,M:0} strings={A:,C:,B:,S1:,LINE:}\nstep 3: n=18 notes=0 split=- trials=0 in=0 out=0 state=stopped next=17 held=[4] numbers={N:0,M:0} strings={A:,C:,B:,S1:,LINE:}\n" ≡ true
unfolding agrees
v026 = refl

v027 : agrees "         PROGRAM LOTS\n         NUMBER N,M,I,K9,COUNT\n        *RO  U\nIGNORED +TINE \nIGNORED    R3\n         SCAN B$M[(TEXTLONG)]=\"2 \"\nL3       ENDROUTINE\n         ROUTINE R2\n         A=TEXTLONG$M                                                   SEQ99433\n L1      PRINT LINE$6,S1\n         RE  AD B /L1,L  1\n         ENDROUTINE\nX9       ROUTINE R1\nL2       IF(NUMERIC(F$M))/,L2\n         K9=+NUMBER(LINE)\nLOOP     ENDROUTINE  \nDONE     COUNT =K9  +(+M/LENGTH(S1  )*COUNT-COUNT +M-K 9-M *K9)\n         END\n" "" "step 1: n=0 notes=0 split=- trials=0 in=0 out=0 state=running next=8 held=[] numbers={N:0,M:0,I:0,K9:0,COUNT:0} strings={B:,TEXTLONG:,A:,LINE:,S1:,F:}\nstep 2: n=0 notes=0 split=- trials=0 in=0 out=0 state=running next=13 held=[] numbers={N:0,M:0,I:0,K9:0,COUNT:0} strings={B:,TEXTLONG:,A:,LINE:,S1:,F:}\nstep 3: n=0 notes=0 split=- trials=0 in=0 out=0 state=running next=17 held=[] numbers={N:0,M:0,I:0,K9:0,COUNT:0} strings={B:,TEXTLONG:,A:,LINE:,S1:,F:}\nstep 4: n=18 notes=0 split=- trials=0 in=0 out=0 state=stopped next=17 held=[] numbers={N:0,M:0,I:0,K9:0,COUNT:0} strings={B:,TEXTLONG:,A:,LINE:,S1:,F:}\n" ≡ true
unfolding agrees
v027 = refl

v028 : agrees "         PROGRAM P\nSTART    NUMBER N,M,I\n* COMMENT 9\n         GOTO L1\n LOOP    ROU  TINE R2\n         BACKSCAN LINE[(B$0),  \"A \",(A)]/,DON E                         SEQ75288\nDONE     SCAN S1 $4[(LINE),(A),\",\",(B)]=\"1\"/DO  NE, DONE\n         LINE$N=\"\"\",LINE,S1\n         ENDROUTINE\n         M=NUMBER(A$5)+M/I-1355+M+N\n         PRINT S  TR  ING(M)\n X9      WRITE \"ABA2,21A  2 \",\"\"\"\n L1      ROUTINE R1\nL2       ENDROUTINE\n L3     CPRINT(6\n        X  1)   \n         LI NE \n         EN D\n" "22-A,2A220,  1+ ++1,A2BA110AA-B1B1+A0A-2\n+A2,0A\n" "step 1: n=0 notes=0 split=- trials=0 in=0 out=0 state=running next=13 held=[] numbers={N:0,M:0,I:0} strings={LINE:,B:,A:,S1:}\nstep 2: n=0 notes=0 split=- trials=0 in=0 out=0 state=running next=15 held=[] numbers={N:0,M:0,I:0} strings={LINE:,B:,A:,S1:}\nstep 3: n=0 notes=0 split=- trials=0 in=0 out=0 state=running next=18 held=[] numbers={N:0,M:0,I:0} strings={LINE:,B:,A:,S1:}\nstep 4: n=0 notes=0 split=- trials=0 in=0 out=0 state=finished next=18 held=[] numbers={N:0,M:0,I:0} strings={LINE:,B:,A:,S1:}\n" ≡ true
unfolding agrees
v028 = refl
