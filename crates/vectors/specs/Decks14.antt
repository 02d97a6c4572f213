-- Decks with their inputs and traces. Assumes nothing.
use Rattle.std.specs.Prelude.{true, ◌≡◌, refl}
use Rattle.vectors.specs.Trace.{agrees, agrees_whole}

v069 : agrees "         PROGRA  M TEST1                                                SEQ72290\nSTART    NUMBER N                                                       SEQ44568\nL1       N=(+(+N)/N+N-197+(N))\nX9       BACKSCAN  B$N[F, ( F$99 999999  999),  (C),\"1 \"]/L3\nL3       ROUTINE R1                                                     SEQ69737\n         C=\"0B\"\nL2       ENDROUTINE\nLOOP     GO TO DONE                                                     SEQ39306\n         READ TEXTLONG\n         IF(N>N)/L3\n         SCAN LINE$3[(C$N)]/X9,L3\n DONE    GO TO L3\n         E  ND\n" "\n22BBAA\n0+,\n\n\n \nA0-B1B2  0AA,A 1 1A,B AAA212+0-+2,-00-1B\n+2+--0,2A01 " "REFUSED 5 4\n" ≡ true
unfolding agrees
v069 = refl

v070 : agrees "         PROGRAM P\n         NUMBER N,M,I\n* COMMENT 0\n         GOTO L3\n         S1=TEXTLONG,TEXTLONG,\"2\"\n   \n         I=-((I)+(N*1))-I\n DONE    IF(NUMBER(A)=LENGTH(A))/L3,LOOP\n         ROUTI  NE R3\n         READ(6 0) A$N/,L2\n         PRINT(61) TEXTLONG,\"1BB\"\nL2       M=+M+((65/I/M-3-I))+LENGTH(C)\n         GOTO L2\n         ENDROUTINE\n         ROUTINE R2\n         I=NUMBER(F$M)-I*M\n         EXECUTE R3\n         A=STRING(-6,M),\"1 \"\n         M=4763*LENGTH(TEXTLONG)\n* COMMENT 1\nX9       ENDR OUTIN  E\n         ROUTI  NE   R1\n         BAC KSCAN LINE[]  /,L1\nL1       READ F$N\n* COMMENT 5\n         PRINT \"2\"\n         N=-I*(5099129-N)+NUMBER(TEXTLONG$2)\n         ENDROUTIN  E\n        CBA  C KSCAN F[  TEX\n        1TLONG,(TEXT LONG),\"\n        1B,2\",(A$2)]/L OO  P\n         ,L 3\n* COMMENT 0\nL3       N=-2176374\n         BACKSCAN   TEXTLONG$2[  \"1B \",( F),(  S1),(C$000 )]=/L3\n         N=2+(I-166*I)\n LOOP    GO TO LO OP\n         B=  \n         END\n" "\nB-BA1-BA- A1\nA-0\n,A0,+2\n-\n,B A+A,++-+A+2A1 2AA A-1+ + +2AA1B1B-2B2\n+ B0A+\n1\n" "step 1: n=0 notes=0 split=- trials=0 in=0 out=0 state=running next=34 held=[] numbers={N:0,M:0,I:0} strings={S1:,TEXTLONG:,A:,C:,F:,LINE:,B:}\nstep 2: n=0 notes=0 split=- trials=0 in=0 out=0 state=running next=35 held=[] numbers={N:-2176374,M:0,I:0} strings={S1:,TEXTLONG:,A:,C:,F:,LINE:,B:}\nstep 3: n=0 notes=0 split=- trials=1 in=0 out=0 state=running next=36 held=[] numbers={N:-2176374,M:0,I:0} strings={S1:,TEXTLONG:,A:,C:,F:,LINE:,B:}\nstep 4: n=0 notes=0 split=- trials=0 in=0 out=0 state=running next=37 held=[] numbers={N:2,M:0,I:0} strings={S1:,TEXTLONG:,A:,C:,F:,LINE:,B:}\nstep 5: n=0 notes=0 split=- trials=0 in=0 out=0 state=running next=37 held=[] numbers={N:2,M:0,I:0} strings={S1:,TEXTLONG:,A:,C:,F:,LINE:,B:}\nstep 6: n=0 notes=0 split=- trials=0 in=0 out=0 state=running next=37 held=[] numbers={N:2,M:0,I:0} strings={S1:,TEXTLONG:,A:,C:,F:,LINE:,B:}\nstep 7: n=0 notes=0 split=- trials=0 in=0 out=0 state=running next=37 held=[] numbers={N:2,M:0,I:0} strings={S1:,TEXTLONG:,A:,C:,F:,LINE:,B:}\nstep 8: n=0 notes=0 split=- trials=0 in=0 out=0 state=running next=37 held=[] numbers={N:2,M:0,I:0} strings={S1:,TEXTLONG:,A:,C:,F:,LINE:,B:}\nstep 9: n=0 notes=0 split=- trials=0 in=0 out=0 state=running next=37 held=[] numbers={N:2,M:0,I:0} strings={S1:,TEXTLONG:,A:,C:,F:,LINE:,B:}\nstep 10: n=0 notes=0 split=- trials=0 in=0 out=0 state=running next=37 held=[] numbers={N:2,M:0,I:0} strings={S1:,TEXTLONG:,A:,C:,F:,LINE:,B:}\nstep 11: n=0 notes=0 split=- trials=0 in=0 out=0 state=running next=37 held=[] numbers={N:2,M:0,I:0} strings={S1:,TEXTLONG:,A:,C:,F:,LINE:,B:}\nstep 12: n=0 notes=0 split=- trials=0 in=0 out=0 state=running next=37 held=[] numbers={N:2,M:0,I:0} strings={S1:,TEXTLONG:,A:,C:,F:,LINE:,B:}\nstep 13: n=0 notes=0 split=- trials=0 in=0 out=0 state=running next=37 held=[] numbers={N:2,M:0,I:0} strings={S1:,TEXTLONG:,A:,C:,F:,LINE:,B:}\nstep 14: n=0 notes=0 split=- trials=0 in=0 out=0 state=running next=37 held=[] numbers={N:2,M:0,I:0} strings={S1:,TEXTLONG:,A:,C:,F:,LINE:,B:}\nstep 15: n=0 notes=0 split=- trials=0 in=0 out=0 state=running next=37 held=[] numbers={N:2,M:0,I:0} strings={S1:,TEXTLONG:,A:,C:,F:,LINE:,B:}\nstep 16: n=0 notes=0 split=- trials=0 in=0 out=0 state=running next=37 held=[] numbers={N:2,M:0,I:0} strings={S1:,TEXTLONG:,A:,C:,F:,LINE:,B:}\nstep 17: n=0 notes=0 split=- trials=0 in=0 out=0 state=running next=37 held=[] numbers={N:2,M:0,I:0} strings={S1:,TEXTLONG:,A:,C:,F:,LINE:,B:}\nstep 18: n=0 notes=0 split=- trials=0 in=0 out=0 state=running next=37 held=[] numbers={N:2,M:0,I:0} strings={S1:,TEXTLONG:,A:,C:,F:,LINE:,B:}\nstep 19: n=0 notes=0 split=- trials=0 in=0 out=0 state=running next=37 held=[] numbers={N:2,M:0,I:0} strings={S1:,TEXTLONG:,A:,C:,F:,LINE:,B:}\nstep 20: n=0 notes=0 split=- trials=0 in=0 out=0 state=running next=37 held=[] numbers={N:2,M:0,I:0} strings={S1:,TEXTLONG:,A:,C:,F:,LINE:,B:}\nstep 21: n=0 notes=0 split=- trials=0 in=0 out=0 state=running next=37 held=[] numbers={N:2,M:0,I:0} strings={S1:,TEXTLONG:,A:,C:,F:,LINE:,B:}\nstep 22: n=0 notes=0 split=- trials=0 in=0 out=0 state=running next=37 held=[] numbers={N:2,M:0,I:0} strings={S1:,TEXTLONG:,A:,C:,F:,LINE:,B:}\nstep 23: n=0 notes=0 split=- trials=0 in=0 out=0 state=running next=37 held=[] numbers={N:2,M:0,I:0} strings={S1:,TEXTLONG:,A:,C:,F:,LINE:,B:}\nstep 24: n=0 notes=0 split=- trials=0 in=0 out=0 state=running next=37 held=[] numbers={N:2,M:0,I:0} strings={S1:,TEXTLONG:,A:,C:,F:,LINE:,B:}\nstep 25: n=0 notes=0 split=- trials=0 in=0 out=0 state=running next=37 held=[] numbers={N:2,M:0,I:0} strings={S1:,TEXTLONG:,A:,C:,F:,LINE:,B:}\nstep 26: n=0 notes=0 split=- trials=0 in=0 out=0 state=running next=37 held=[] numbers={N:2,M:0,I:0} strings={S1:,TEXTLONG:,A:,C:,F:,LINE:,B:}\nstep 27: n=0 notes=0 split=- trials=0 in=0 out=0 state=running next=37 held=[] numbers={N:2,M:0,I:0} strings={S1:,TEXTLONG:,A:,C:,F:,LINE:,B:}\nstep 28: n=0 notes=0 split=- trials=0 in=0 out=0 state=running next=37 held=[] numbers={N:2,M:0,I:0} strings={S1:,TEXTLONG:,A:,C:,F:,LINE:,B:}\nstep 29: n=0 notes=0 split=- trials=0 in=0 out=0 state=running next=37 held=[] numbers={N:2,M:0,I:0} strings={S1:,TEXTLONG:,A:,C:,F:,LINE:,B:}\nstep 30: n=0 notes=0 split=- trials=0 in=0 out=0 state=running next=37 held=[] numbers={N:2,M:0,I:0} strings={S1:,TEXTLONG:,A:,C:,F:,LINE:,B:}\nstep 31: n=0 notes=0 split=- trials=0 in=0 out=0 state=running next=37 held=[] numbers={N:2,M:0,I:0} strings={S1:,TEXTLONG:,A:,C:,F:,LINE:,B:}\nstep 32: n=0 notes=0 split=- trials=0 in=0 out=0 state=running next=37 held=[] numbers={N:2,M:0,I:0} strings={S1:,TEXTLONG:,A:,C:,F:,LINE:,B:}\nstep 33: n=0 notes=0 split=- trials=0 in=0 out=0 state=running next=37 held=[] numbers={N:2,M:0,I:0} strings={S1:,TEXTLONG:,A:,C:,F:,LINE:,B:}\nstep 34: n=0 notes=0 split=- trials=0 in=0 out=0 state=running next=37 held=[] numbers={N:2,M:0,I:0} strings={S1:,TEXTLONG:,A:,C:,F:,LINE:,B:}\nstep 35: n=0 notes=0 split=- trials=0 in=0 out=0 state=running next=37 held=[] numbers={N:2,M:0,I:0} strings={S1:,TEXTLONG:,A:,C:,F:,LINE:,B:}\nstep 36: n=0 notes=0 split=- trials=0 in=0 out=0 state=running next=37 held=[] numbers={N:2,M:0,I:0} strings={S1:,TEXTLONG:,A:,C:,F:,LINE:,B:}\nstep 37: n=0 notes=0 split=- trials=0 in=0 out=0 state=running next=37 held=[] numbers={N:2,M:0,I:0} strings={S1:,TEXTLONG:,A:,C:,F:,LINE:,B:}\nstep 38: n=0 notes=0 split=- trials=0 in=0 out=0 state=running next=37 held=[] numbers={N:2,M:0,I:0} strings={S1:,TEXTLONG:,A:,C:,F:,LINE:,B:}\nstep 39: n=0 notes=0 split=- trials=0 in=0 out=0 state=running next=37 held=[] numbers={N:2,M:0,I:0} strings={S1:,TEXTLONG:,A:,C:,F:,LINE:,B:}\nstep 40: n=0 notes=0 split=- trials=0 in=0 out=0 state=running next=37 held=[] numbers={N:2,M:0,I:0} strings={S1:,TEXTLONG:,A:,C:,F:,LINE:,B:}\nstep 41: n=0 notes=0 split=- trials=0 in=0 out=0 state=running next=37 held=[] numbers={N:2,M:0,I:0} strings={S1:,TEXTLONG:,A:,C:,F:,LINE:,B:}\nstep 42: n=0 notes=0 split=- trials=0 in=0 out=0 state=running next=37 held=[] numbers={N:2,M:0,I:0} strings={S1:,TEXTLONG:,A:,C:,F:,LINE:,B:}\nstep 43: n=0 notes=0 split=- trials=0 in=0 out=0 state=running next=37 held=[] numbers={N:2,M:0,I:0} strings={S1:,TEXTLONG:,A:,C:,F:,LINE:,B:}\nstep 44: n=0 notes=0 split=- trials=0 in=0 out=0 state=running next=37 held=[] numbers={N:2,M:0,I:0} strings={S1:,TEXTLONG:,A:,C:,F:,LINE:,B:}\nstep 45: n=0 notes=0 split=- trials=0 in=0 out=0 state=running next=37 held=[] numbers={N:2,M:0,I:0} strings={S1:,TEXTLONG:,A:,C:,F:,LINE:,B:}\nstep 46: n=0 notes=0 split=- trials=0 in=0 out=0 state=running next=37 held=[] numbers={N:2,M:0,I:0} strings={S1:,TEXTLONG:,A:,C:,F:,LINE:,B:}\nstep 47: n=0 notes=0 split=- trials=0 in=0 out=0 state=running next=37 held=[] numbers={N:2,M:0,I:0} strings={S1:,TEXTLONG:,A:,C:,F:,LINE:,B:}\nstep 48: n=0 notes=0 split=- trials=0 in=0 out=0 state=running next=37 held=[] numbers={N:2,M:0,I:0} strings={S1:,TEXTLONG:,A:,C:,F:,LINE:,B:}\nstep 49: n=0 notes=0 split=- trials=0 in=0 out=0 state=running next=37 held=[] numbers={N:2,M:0,I:0} strings={S1:,TEXTLONG:,A:,C:,F:,LINE:,B:}\nstep 50: n=0 notes=0 split=- trials=0 in=0 out=0 state=running next=37 held=[] numbers={N:2,M:0,I:0} strings={S1:,TEXTLONG:,A:,C:,F:,LINE:,B:}\nstep 51: n=0 notes=0 split=- trials=0 in=0 out=0 state=running next=37 held=[] numbers={N:2,M:0,I:0} strings={S1:,TEXTLONG:,A:,C:,F:,LINE:,B:}\nstep 52: n=0 notes=0 split=- trials=0 in=0 out=0 state=running next=37 held=[] numbers={N:2,M:0,I:0} strings={S1:,TEXTLONG:,A:,C:,F:,LINE:,B:}\nstep 53: n=0 notes=0 split=- trials=0 in=0 out=0 state=running next=37 held=[] numbers={N:2,M:0,I:0} strings={S1:,TEXTLONG:,A:,C:,F:,LINE:,B:}\nstep 54: n=0 notes=0 split=- trials=0 in=0 out=0 state=running next=37 held=[] numbers={N:2,M:0,I:0} strings={S1:,TEXTLONG:,A:,C:,F:,LINE:,B:}\nstep 55: n=0 notes=0 split=- trials=0 in=0 out=0 state=running next=37 held=[] numbers={N:2,M:0,I:0} strings={S1:,TEXTLONG:,A:,C:,F:,LINE:,B:}\nstep 56: n=0 notes=0 split=- trials=0 in=0 out=0 state=running next=37 held=[] numbers={N:2,M:0,I:0} strings={S1:,TEXTLONG:,A:,C:,F:,LINE:,B:}\nstep 57: n=0 notes=0 split=- trials=0 in=0 out=0 state=running next=37 held=[] numbers={N:2,M:0,I:0} strings={S1:,TEXTLONG:,A:,C:,F:,LINE:,B:}\nstep 58: n=0 notes=0 split=- trials=0 in=0 out=0 state=running next=37 held=[] numbers={N:2,M:0,I:0} strings={S1:,TEXTLONG:,A:,C:,F:,LINE:,B:}\nstep 59: n=0 notes=0 split=- trials=0 in=0 out=0 state=running next=37 held=[] numbers={N:2,M:0,I:0} strings={S1:,TEXTLONG:,A:,C:,F:,LINE:,B:}\nstep 60: n=0 notes=0 split=- trials=0 in=0 out=0 state=running next=37 held=[] numbers={N:2,M:0,I:0} strings={S1:,TEXTLONG:,A:,C:,F:,LINE:,B:}\n" ≡ true
unfolding agrees
v070 = refl

v071 : agrees "         PROGRAM TEST1                                                  SEQ54329\n         NUMBER N  \n                                                                        SEQ\n L1      C=TEXTLONG$6,\"0-A-1-2 +=-1\",\"A\",\"B,\"\nX9       A=STRING(N,  N),LINE\n L2      TEXTLONG=B\nLOOP     B=\nDONE     READ C$4/L3,X9\n L3      END" "A+AB,,1    A\n,+,A2B+B 2+11+A,2A1,-,AA+2-1 2+211A-2+22\nAAAB0-A2,1+ 0-A0AB,0A-BA2,B0,,+B1 +1+,+A\n-0,\n1\nA 00- 2B0 -,0 , B+-BB -0+0A2ABA,A,00,A1-\nB,AA--0A-  B +--,B,-1  +0 ,0A+++A0+220A \n,+12+,\n" "step 1: n=0 notes=0 split=- trials=0 in=0 out=0 state=running next=5 held=[] numbers={N:0} strings={C:302d412d312d32202b3d2d3141422c,TEXTLONG:,A:,LINE:,B:}\nstep 2: n=0 notes=0 split=- trials=0 in=0 out=0 state=running next=6 held=[] numbers={N:0} strings={C:302d412d312d32202b3d2d3141422c,TEXTLONG:,A:30,LINE:,B:}\nstep 3: n=0 notes=0 split=- trials=0 in=0 out=0 state=running next=7 held=[] numbers={N:0} strings={C:302d412d312d32202b3d2d3141422c,TEXTLONG:,A:30,LINE:,B:}\nstep 4: n=0 notes=0 split=- trials=0 in=0 out=0 state=running next=8 held=[] numbers={N:0} strings={C:302d412d312d32202b3d2d3141422c,TEXTLONG:,A:30,LINE:,B:}\nstep 5: n=0 notes=1 split=- trials=0 in=13 out=0 state=running next=9 held=[] numbers={N:0} strings={C:412b4142,TEXTLONG:,A:30,LINE:,B:}\nstep 6: n=0 notes=0 split=- trials=0 in=13 out=0 state=finished next=9 held=[] numbers={N:0} strings={C:412b4142,TEXTLONG:,A:30,LINE:,B:}\n" ≡ true
unfolding agrees
v071 = refl

v072 : agrees "         PROGRAM P\n         NUMBER N,M,I,K9,COUNT\nLOOP     IF(NU  MERIC(LINE))/,L2\n         ROUTINE R2\nL3       IF(NUMERIC(TEXTLONG))/,L 3\n        1BA  CK  S  C  AN A[(S1 \n        *) ,(TEXTLONG$0),  (LINE\n         $0)]/  L1\n         IF(2<>I)/L 3  ,  L3\nL1       SCAN S1[(LINE$1),\"A,\",(A),B,\")3\"]=STRING(COUNT),\"11\"\n         ENDROUTINE\n         ROUTINE R1\n DONE    READ LINE\n         SCAN TEXTLONG[A$N,(C),(C),LINE$COUNT]=C$0\n* COMMENT 9\n         N=COUNT*K9*K9                                                  SEQ28124\n         ENDROUTINE\n         LINE=TEXTLONG                                                  SEQ24853\n* COMMENT 9\n         SCAN C[\"AA A1\"]/,LOOP\n         A=\"1,A1B\"\n         PRIN T(61) B                                                   SEQ51785\nL2       I=COUNT/LENGTH(S1)\n* COMMENT 2\n         SCAN  B[(LIN E  )]=\"=+)\",\"B,2,   ABAA1\"\n         C$  N=\"2\"\n         M=1740+M-M\n         IF(-2>=I)/LOOP,LOOP\nX9       END\n" "0+11 01,1A+ \nB01+B---+ -A\n+AA 00A A-0 \n-B1\n-+AB+AAB0A,BB01A0A B0AA,B-B  0-A+A+ A1-A\n1+,A+-\n 22\n  ,\n" "step 1: n=0 notes=0 split=- trials=0 in=0 out=0 state=running next=23 held=[] numbers={N:0,M:0,I:0,K9:0,COUNT:0} strings={LINE:,TEXTLONG:,A:,S1:,B:,C:}\nstep 2: n=18 notes=0 split=- trials=0 in=0 out=0 state=stopped next=23 held=[] numbers={N:0,M:0,I:0,K9:0,COUNT:0} strings={LINE:,TEXTLONG:,A:,S1:,B:,C:}\n" ≡ true
unfolding agrees
v072 = refl

v073 : agrees "         PROGRAM LOTS\n         NUMBER N\n         BACKSCAN LINE$N[\"1AB\"]=TEXTLONG$N/L3,L3\nL3       WRITE \")-\",TEXTLONG$N,\"*\"\n         F$N=\" \"                                                        SEQ91866\nL1       S 1=\n                                                                        SEQ\nLOOP     READ LINE$N\n         READ(60) C/,X9\n         READ A/L3\n         SCAN TEXTLONG$N[]/L1,L1\n         WR I  T  E LINE$N                                              SEQ41360\n         N=N*N/NUMBER(S1$N)\nX9       ROUTINE R1\n         READ B/L2\n         A=C$2\n DONE    B$4=\" \",\"AB\"\nL2       SCAN TEXTLONG [(A),(S1$N)]\n         ENDR  OUTI  NE                                                 SEQ46591\n         END" "1BA-AB" "step 1: n=0 notes=0 split=- trials=1 in=0 out=0 state=running next=4 held=[] numbers={N:0} strings={LINE:,TEXTLONG:,F:,S1:,C:,A:,B:}\nstep 2: n=0 notes=0 split=- trials=0 in=0 out=4 state=running next=5 held=[] numbers={N:0} strings={LINE:,TEXTLONG:,F:,S1:,C:,A:,B:}\nstep 3: n=0 notes=0 split=- trials=0 in=0 out=4 state=running next=6 held=[] numbers={N:0} strings={LINE:,TEXTLONG:,F:20,S1:,C:,A:,B:}\nstep 4: n=0 notes=0 split=- trials=0 in=0 out=4 state=running next=8 held=[] numbers={N:0} strings={LINE:,TEXTLONG:,F:20,S1:,C:,A:,B:}\nstep 5: n=0 notes=0 split=- trials=0 in=0 out=4 state=running next=9 held=[] numbers={N:0} strings={LINE:,TEXTLONG:,F:20,S1:,C:,A:,B:}\nstep 6: n=0 notes=0 split=- trials=0 in=6 out=4 state=running next=10 held=[] numbers={N:0} strings={LINE:,TEXTLONG:,F:20,S1:,C:3142412d4142,A:,B:}\nstep 7: n=0 notes=0 split=- trials=0 in=6 out=4 state=running next=11 held=[] numbers={N:0} strings={LINE:,TEXTLONG:,F:20,S1:,C:3142412d4142,A:,B:}\nstep 8: n=0 notes=0 split=0; trials=0 in=6 out=4 state=running next=6 held=[] numbers={N:0} strings={LINE:,TEXTLONG:,F:20,S1:,C:3142412d4142,A:,B:}\nstep 9: n=0 notes=0 split=- trials=0 in=6 out=4 state=running next=8 held=[] numbers={N:0} strings={LINE:,TEXTLONG:,F:20,S1:,C:3142412d4142,A:,B:}\nstep 10: n=0 notes=0 split=- trials=0 in=6 out=4 state=running next=9 held=[] numbers={N:0} strings={LINE:,TEXTLONG:,F:20,S1:,C:3142412d4142,A:,B:}\nstep 11: n=0 notes=0 split=- trials=0 in=6 out=4 state=running next=14 held=[] numbers={N:0} strings={LINE:,TEXTLONG:,F:20,S1:,C:3142412d4142,A:,B:}\nstep 12: n=0 notes=0 split=- trials=0 in=6 out=4 state=running next=20 held=[] numbers={N:0} strings={LINE:,TEXTLONG:,F:20,S1:,C:3142412d4142,A:,B:}\nstep 13: n=0 notes=0 split=- trials=0 in=6 out=4 state=finished next=20 held=[] numbers={N:0} strings={LINE:,TEXTLONG:,F:20,S1:,C:3142412d4142,A:,B:}\n" ≡ true
unfolding agrees
v073 = refl

v074 : agrees "         PROGRAM P\n         N UMBER N,M                                                    SEQ05302\nDONE     A=STRING(-8,N)\n         S1=B\nL3       PRINT A\n X9      I F (NUMBER(C)>=N )/L  OO  P,L2\n LOOP    IF(N>NUMBER(S1$M))/L1\n L2      IF(NULL(B))/DONE,L1                                            SEQ45630\nL1       IF(7<>LENGT H(A))/ DO NE\n* COMMENT 1\n         READ(60) LINE$M/DONE,L1\n         S1=LINE,B\n         EN  D\n" "2A-AA+2 2-B+\n\n" "step 1: n=0 notes=0 split=- trials=0 in=0 out=0 state=running next=4 held=[] numbers={N:0,M:0} strings={A:2020202020202030,S1:,B:,C:,LINE:}\nstep 2: n=0 notes=0 split=- trials=0 in=0 out=0 state=running next=5 held=[] numbers={N:0,M:0} strings={A:2020202020202030,S1:,B:,C:,LINE:}\nstep 3: n=0 notes=0 split=- trials=0 in=0 out=9 state=running next=6 held=[] numbers={N:0,M:0} strings={A:2020202020202030,S1:,B:,C:,LINE:}\nstep 4: n=0 notes=1 split=- trials=0 in=0 out=9 state=running next=7 held=[] numbers={N:0,M:0} strings={A:2020202020202030,S1:,B:,C:,LINE:}\nstep 5: n=0 notes=1 split=- trials=0 in=0 out=9 state=running next=8 held=[] numbers={N:0,M:0} strings={A:2020202020202030,S1:,B:,C:,LINE:}\nstep 6: n=0 notes=0 split=- trials=0 in=0 out=9 state=running next=3 held=[] numbers={N:0,M:0} strings={A:2020202020202030,S1:,B:,C:,LINE:}\nstep 7: n=0 notes=0 split=- trials=0 in=0 out=9 state=running next=4 held=[] numbers={N:0,M:0} strings={A:2020202020202030,S1:,B:,C:,LINE:}\nstep 8: n=0 notes=0 split=- trials=0 in=0 out=9 state=running next=5 held=[] numbers={N:0,M:0} strings={A:2020202020202030,S1:,B:,C:,LINE:}\nstep 9: n=0 notes=0 split=- trials=0 in=0 out=18 state=running next=6 held=[] numbers={N:0,M:0} strings={A:2020202020202030,S1:,B:,C:,LINE:}\nstep 10: n=0 notes=1 split=- trials=0 in=0 out=18 state=running next=7 held=[] numbers={N:0,M:0} strings={A:2020202020202030,S1:,B:,C:,LINE:}\nstep 11: n=0 notes=1 split=- trials=0 in=0 out=18 state=running next=8 held=[] numbers={N:0,M:0} strings={A:2020202020202030,S1:,B:,C:,LINE:}\nstep 12: n=0 notes=0 split=- trials=0 in=0 out=18 state=running next=3 held=[] numbers={N:0,M:0} strings={A:2020202020202030,S1:,B:,C:,LINE:}\nstep 13: n=0 notes=0 split=- trials=0 in=0 out=18 state=running next=4 held=[] numbers={N:0,M:0} strings={A:2020202020202030,S1:,B:,C:,LINE:}\nstep 14: n=0 notes=0 split=- trials=0 in=0 out=18 state=running next=5 held=[] numbers={N:0,M:0} strings={A:2020202020202030,S1:,B:,C:,LINE:}\nstep 15: n=0 notes=0 split=- trials=0 in=0 out=27 state=running next=6 held=[] numbers={N:0,M:0} strings={A:2020202020202030,S1:,B:,C:,LINE:}\nstep 16: n=0 notes=1 split=- trials=0 in=0 out=27 state=running next=7 held=[] numbers={N:0,M:0} strings={A:2020202020202030,S1:,B:,C:,LINE:}\nstep 17: n=0 notes=1 split=- trials=0 in=0 out=27 state=running next=8 held=[] numbers={N:0,M:0} strings={A:2020202020202030,S1:,B:,C:,LINE:}\nstep 18: n=0 notes=0 split=- trials=0 in=0 out=27 state=running next=3 held=[] numbers={N:0,M:0} strings={A:2020202020202030,S1:,B:,C:,LINE:}\nstep 19: n=0 notes=0 split=- trials=0 in=0 out=27 state=running next=4 held=[] numbers={N:0,M:0} strings={A:2020202020202030,S1:,B:,C:,LINE:}\nstep 20: n=0 notes=0 split=- trials=0 in=0 out=27 state=running next=5 held=[] numbers={N:0,M:0} strings={A:2020202020202030,S1:,B:,C:,LINE:}\nstep 21: n=0 notes=0 split=- trials=0 in=0 out=36 state=running next=6 held=[] numbers={N:0,M:0} strings={A:2020202020202030,S1:,B:,C:,LINE:}\nstep 22: n=0 notes=1 split=- trials=0 in=0 out=36 state=running next=7 held=[] numbers={N:0,M:0} strings={A:2020202020202030,S1:,B:,C:,LINE:}\nstep 23: n=0 notes=1 split=- trials=0 in=0 out=36 state=running next=8 held=[] numbers={N:0,M:0} strings={A:2020202020202030,S1:,B:,C:,LINE:}\nstep 24: n=0 notes=0 split=- trials=0 in=0 out=36 state=running next=3 held=[] numbers={N:0,M:0} strings={A:2020202020202030,S1:,B:,C:,LINE:}\nstep 25: n=0 notes=0 split=- trials=0 in=0 out=36 state=running next=4 held=[] numbers={N:0,M:0} strings={A:2020202020202030,S1:,B:,C:,LINE:}\nstep 26: n=0 notes=0 split=- trials=0 in=0 out=36 state=running next=5 held=[] numbers={N:0,M:0} strings={A:2020202020202030,S1:,B:,C:,LINE:}\nstep 27: n=0 notes=0 split=- trials=0 in=0 out=45 state=running next=6 held=[] numbers={N:0,M:0} strings={A:2020202020202030,S1:,B:,C:,LINE:}\nstep 28: n=0 notes=1 split=- trials=0 in=0 out=45 state=running next=7 held=[] numbers={N:0,M:0} strings={A:2020202020202030,S1:,B:,C:,LINE:}\nstep 29: n=0 notes=1 split=- trials=0 in=0 out=45 state=running next=8 held=[] numbers={N:0,M:0} strings={A:2020202020202030,S1:,B:,C:,LINE:}\nstep 30: n=0 notes=0 split=- trials=0 in=0 out=45 state=running next=3 held=[] numbers={N:0,M:0} strings={A:2020202020202030,S1:,B:,C:,LINE:}\nstep 31: n=0 notes=0 split=- trials=0 in=0 out=45 state=running next=4 held=[] numbers={N:0,M:0} strings={A:2020202020202030,S1:,B:,C:,LINE:}\nstep 32: n=0 notes=0 split=- trials=0 in=0 out=45 state=running next=5 held=[] numbers={N:0,M:0} strings={A:2020202020202030,S1:,B:,C:,LINE:}\nstep 33: n=0 notes=0 split=- trials=0 in=0 out=54 state=running next=6 held=[] numbers={N:0,M:0} strings={A:2020202020202030,S1:,B:,C:,LINE:}\nstep 34: n=0 notes=1 split=- trials=0 in=0 out=54 state=running next=7 held=[] numbers={N:0,M:0} strings={A:2020202020202030,S1:,B:,C:,LINE:}\nstep 35: n=0 notes=1 split=- trials=0 in=0 out=54 state=running next=8 held=[] numbers={N:0,M:0} strings={A:2020202020202030,S1:,B:,C:,LINE:}\nstep 36: n=0 notes=0 split=- trials=0 in=0 out=54 state=running next=3 held=[] numbers={N:0,M:0} strings={A:2020202020202030,S1:,B:,C:,LINE:}\nstep 37: n=0 notes=0 split=- trials=0 in=0 out=54 state=running next=4 held=[] numbers={N:0,M:0} strings={A:2020202020202030,S1:,B:,C:,LINE:}\nstep 38: n=0 notes=0 split=- trials=0 in=0 out=54 state=running next=5 held=[] numbers={N:0,M:0} strings={A:2020202020202030,S1:,B:,C:,LINE:}\nstep 39: n=0 notes=0 split=- trials=0 in=0 out=63 state=running next=6 held=[] numbers={N:0,M:0} strings={A:2020202020202030,S1:,B:,C:,LINE:}\nstep 40: n=0 notes=1 split=- trials=0 in=0 out=63 state=running next=7 held=[] numbers={N:0,M:0} strings={A:2020202020202030,S1:,B:,C:,LINE:}\nstep 41: n=0 notes=1 split=- trials=0 in=0 out=63 state=running next=8 held=[] numbers={N:0,M:0} strings={A:2020202020202030,S1:,B:,C:,LINE:}\nstep 42: n=0 notes=0 split=- trials=0 in=0 out=63 state=running next=3 held=[] numbers={N:0,M:0} strings={A:2020202020202030,S1:,B:,C:,LINE:}\nstep 43: n=0 notes=0 split=- trials=0 in=0 out=63 state=running next=4 held=[] numbers={N:0,M:0} strings={A:2020202020202030,S1:,B:,C:,LINE:}\nstep 44: n=0 notes=0 split=- trials=0 in=0 out=63 state=running next=5 held=[] numbers={N:0,M:0} strings={A:2020202020202030,S1:,B:,C:,LINE:}\nstep 45: n=0 notes=0 split=- trials=0 in=0 out=72 state=running next=6 held=[] numbers={N:0,M:0} strings={A:2020202020202030,S1:,B:,C:,LINE:}\nstep 46: n=0 notes=1 split=- trials=0 in=0 out=72 state=running next=7 held=[] numbers={N:0,M:0} strings={A:2020202020202030,S1:,B:,C:,LINE:}\nstep 47: n=0 notes=1 split=- trials=0 in=0 out=72 state=running next=8 held=[] numbers={N:0,M:0} strings={A:2020202020202030,S1:,B:,C:,LINE:}\nstep 48: n=0 notes=0 split=- trials=0 in=0 out=72 state=running next=3 held=[] numbers={N:0,M:0} strings={A:2020202020202030,S1:,B:,C:,LINE:}\nstep 49: n=0 notes=0 split=- trials=0 in=0 out=72 state=running next=4 held=[] numbers={N:0,M:0} strings={A:2020202020202030,S1:,B:,C:,LINE:}\nstep 50: n=0 notes=0 split=- trials=0 in=0 out=72 state=running next=5 held=[] numbers={N:0,M:0} strings={A:2020202020202030,S1:,B:,C:,LINE:}\nstep 51: n=0 notes=0 split=- trials=0 in=0 out=81 state=running next=6 held=[] numbers={N:0,M:0} strings={A:2020202020202030,S1:,B:,C:,LINE:}\nstep 52: n=0 notes=1 split=- trials=0 in=0 out=81 state=running next=7 held=[] numbers={N:0,M:0} strings={A:2020202020202030,S1:,B:,C:,LINE:}\nstep 53: n=0 notes=1 split=- trials=0 in=0 out=81 state=running next=8 held=[] numbers={N:0,M:0} strings={A:2020202020202030,S1:,B:,C:,LINE:}\nstep 54: n=0 notes=0 split=- trials=0 in=0 out=81 state=running next=3 held=[] numbers={N:0,M:0} strings={A:2020202020202030,S1:,B:,C:,LINE:}\nstep 55: n=0 notes=0 split=- trials=0 in=0 out=81 state=running next=4 held=[] numbers={N:0,M:0} strings={A:2020202020202030,S1:,B:,C:,LINE:}\nstep 56: n=0 notes=0 split=- trials=0 in=0 out=81 state=running next=5 held=[] numbers={N:0,M:0} strings={A:2020202020202030,S1:,B:,C:,LINE:}\nstep 57: n=0 notes=0 split=- trials=0 in=0 out=90 state=running next=6 held=[] numbers={N:0,M:0} strings={A:2020202020202030,S1:,B:,C:,LINE:}\nstep 58: n=0 notes=1 split=- trials=0 in=0 out=90 state=running next=7 held=[] numbers={N:0,M:0} strings={A:2020202020202030,S1:,B:,C:,LINE:}\nstep 59: n=0 notes=1 split=- trials=0 in=0 out=90 state=running next=8 held=[] numbers={N:0,M:0} strings={A:2020202020202030,S1:,B:,C:,LINE:}\nstep 60: n=0 notes=0 split=- trials=0 in=0 out=90 state=running next=3 held=[] numbers={N:0,M:0} strings={A:2020202020202030,S1:,B:,C:,LINE:}\n" ≡ true
unfolding agrees
v074 = refl

v075 : agrees "        CPROGRAM \n         L O  T S\n         NUMBER N,M\nL2       BACKSCAN A[(B)]/,L1\n         M=-N-NUMBER(S1)+NU  MBER(C$N)-LEN  G  T H  (A )\n         M=6*M-(M/798626*N/M)                                           SEQ54035\n X9      SCAN A[STRING(-8,M),A,(S1$2)]=A\nL3       WRITE STRING(N),\")\"\n         SCA N A[\"1 AB  B12 2 \",  (B),(C$2)] \n DONE    BACKSCAN A[B,(C$N),(S1),(S1$00),STRING(M),\",,A\",B]\n         BACKSCAN A[(B),(S1),\"A,B\",C,(S1)]                              SEQ43045\nLOOP     WRITE A,B,\"2 A\"\n         PRINT \n         SCAN A[(B$N)]=C$M,S1$4,\"+A/02*-,/= *\"/,DONE\n         C$N  =C,  \")\"                                                  SEQ14494\n* COMMENT 2\n         PRINT( 61  ) B,\"(\"\nL1       END\n" ",-1-A2\nAAAB22++,02B11B1+BBAAA21-1202A2AA+221112\n,2,,,1  AA2-\n\nBB,\n 02\nB1 \n2++2-0-0,+-AA-- A,B2 B 1A1A2B1A+-++AA-+-\n" "step 1: n=0 notes=0 split=0;0 trials=0 in=0 out=0 state=running next=5 held=[] numbers={N:0,M:0} strings={A:,B:,S1:,C:}\nstep 2: n=0 notes=2 split=- trials=0 in=0 out=0 state=running next=6 held=[] numbers={N:0,M:0} strings={A:,B:,S1:,C:}\nstep 3: n=18 notes=0 split=- trials=0 in=0 out=0 state=stopped next=6 held=[] numbers={N:0,M:0} strings={A:,B:,S1:,C:}\n" ≡ true
unfolding agrees
v075 = refl

v076 : agrees "         PROGRAM P\n         NUMBER N,M\nLOOP     BACKSCAN S1[(TEXTLONG$N)]/DONE                                 SEQ06932\n         SCAN B[\"(-\",(G),STRING(-2,N),(F$M)]=A/,X9\n         READ B\n         S1=STRING(N)\nL3       N=(LENGTH(LINE)*(M+M*M*M)/N)\n         M=(((M)))\nX9       F=\"0\"\n         M=+7797880+579\n L1      BACKS  CAN TEXT LONG[STRING(0,N),C]=C,LINE  ,  B,\"AA1\"/X9,L2   SEQ93656\nDONE     BACKSCAN B[\"3,$*1*B)3-3B\",(TEXTLONG),LINE,(C),(S1),G,S1]/L2,X9 SEQ81170\nL2       END\n" "" "REFUSED 8 12\n" ≡ true
unfolding agrees
v076 = refl

v077 : agrees "         PRO GRAM TEST  1\n         NUMBER N,M\n         ROUTIN  E R3\n         READ LINE                                                      SEQ36134\nL3       RET URN\n         ENDROUTINE\n DONE   XM=+N*\n        1NUMBE\n        +R(LIN\n         E)\n         EXECUTE R2                                                     SEQ77495\n         ROUTINE R1\n         S1=\",\"\nL2       ENDROUTINE\nX9       R OUT INE R2\n         M=M-L EN  GTH  (A)\n         A=TEXTL ONG,C\n\n LOOP    READ B$M/LOOP\n        CBACKSC\n        XAN B$8\n IGNORED*[\"1B\",\n        X(A),(L\n        +INE),(                                                         SEQ55005\nIGNORED 1LINE),\n        X(A),(L\n        XINE),\"\n        C3\"]=A,\n        +S1/LOO\n         P\n         ENDROUTINE\n         IF(NULL(LINE))/X9\n         WRITE    LINE$N,A,\"1B2AA\",\"=B\"                                 SEQ09688\n         A=\"1-\"\n L1      READ B$N\n         IF(NUMBER(LINE)>NUMBER(TEXTLONG))/X9,X9\n         IF(NULL(C))/L1\n* COMMENT 4\n         EN  D\n" "-+ --0\n1-A--2\nAB1\n,B-02,\n\n+++- 11- 0+ \n\n,00B 1 1B0+ A-2+1AA -1BBA1-022B1,022B202\n" "step 1: n=0 notes=0 split=- trials=0 in=0 out=0 state=running next=7 held=[] numbers={N:0,M:0} strings={LINE:,S1:,A:,TEXTLONG:,C:,B:}\nstep 2: n=0 notes=1 split=- trials=0 in=0 out=0 state=running next=11 held=[] numbers={N:0,M:0} strings={LINE:,S1:,A:,TEXTLONG:,C:,B:}\nstep 3: n=0 notes=0 split=- trials=0 in=0 out=0 state=running next=16 held=[12] numbers={N:0,M:0} strings={LINE:,S1:,A:,TEXTLONG:,C:,B:}\nstep 4: n=0 notes=0 split=- trials=0 in=0 out=0 state=running next=17 held=[12] numbers={N:0,M:0} strings={LINE:,S1:,A:,TEXTLONG:,C:,B:}\nstep 5: n=0 notes=0 split=- trials=0 in=0 out=0 state=running next=19 held=[12] numbers={N:0,M:0} strings={LINE:,S1:,A:,TEXTLONG:,C:,B:}\nstep 6: n=0 notes=0 split=- trials=0 in=0 out=0 state=running next=20 held=[12] numbers={N:0,M:0} strings={LINE:,S1:,A:,TEXTLONG:,C:,B:}\nstep 7: n=0 notes=0 split=- trials=1 in=0 out=0 state=running next=31 held=[12] numbers={N:0,M:0} strings={LINE:,S1:,A:,TEXTLONG:,C:,B:}\nstep 8: n=0 notes=0 split=- trials=0 in=0 out=0 state=running next=12 held=[] numbers={N:0,M:0} strings={LINE:,S1:,A:,TEXTLONG:,C:,B:}\nstep 9: n=0 notes=0 split=- trials=0 in=0 out=0 state=running next=15 held=[] numbers={N:0,M:0} strings={LINE:,S1:,A:,TEXTLONG:,C:,B:}\nstep 10: n=0 notes=0 split=- trials=0 in=0 out=0 state=running next=32 held=[] numbers={N:0,M:0} strings={LINE:,S1:,A:,TEXTLONG:,C:,B:}\nstep 11: n=0 notes=0 split=- trials=0 in=0 out=0 state=running next=15 held=[] numbers={N:0,M:0} strings={LINE:,S1:,A:,TEXTLONG:,C:,B:}\nstep 12: n=0 notes=0 split=- trials=0 in=0 out=0 state=running next=32 held=[] numbers={N:0,M:0} strings={LINE:,S1:,A:,TEXTLONG:,C:,B:}\nstep 13: n=0 notes=0 split=- trials=0 in=0 out=0 state=running next=15 held=[] numbers={N:0,M:0} strings={LINE:,S1:,A:,TEXTLONG:,C:,B:}\nstep 14: n=0 notes=0 split=- trials=0 in=0 out=0 state=running next=32 held=[] numbers={N:0,M:0} strings={LINE:,S1:,A:,TEXTLONG:,C:,B:}\nstep 15: n=0 notes=0 split=- trials=0 in=0 out=0 state=running next=15 held=[] numbers={N:0,M:0} strings={LINE:,S1:,A:,TEXTLONG:,C:,B:}\nstep 16: n=0 notes=0 split=- trials=0 in=0 out=0 state=running next=32 held=[] numbers={N:0,M:0} strings={LINE:,S1:,A:,TEXTLONG:,C:,B:}\nstep 17: n=0 notes=0 split=- trials=0 in=0 out=0 state=running next=15 held=[] numbers={N:0,M:0} strings={LINE:,S1:,A:,TEXTLONG:,C:,B:}\nstep 18: n=0 notes=0 split=- trials=0 in=0 out=0 state=running next=32 held=[] numbers={N:0,M:0} strings={LINE:,S1:,A:,TEXTLONG:,C:,B:}\nstep 19: n=0 notes=0 split=- trials=0 in=0 out=0 state=running next=15 held=[] numbers={N:0,M:0} strings={LINE:,S1:,A:,TEXTLONG:,C:,B:}\nstep 20: n=0 notes=0 split=- trials=0 in=0 out=0 state=running next=32 held=[] numbers={N:0,M:0} strings={LINE:,S1:,A:,TEXTLONG:,C:,B:}\nstep 21: n=0 notes=0 split=- trials=0 in=0 out=0 state=running next=15 held=[] numbers={N:0,M:0} strings={LINE:,S1:,A:,TEXTLONG:,C:,B:}\nstep 22: n=0 notes=0 split=- trials=0 in=0 out=0 state=running next=32 held=[] numbers={N:0,M:0} strings={LINE:,S1:,A:,TEXTLONG:,C:,B:}\nstep 23: n=0 notes=0 split=- trials=0 in=0 out=0 state=running next=15 held=[] numbers={N:0,M:0} strings={LINE:,S1:,A:,TEXTLONG:,C:,B:}\nstep 24: n=0 notes=0 split=- trials=0 in=0 out=0 state=running next=32 held=[] numbers={N:0,M:0} strings={LINE:,S1:,A:,TEXTLONG:,C:,B:}\nstep 25: n=0 notes=0 split=- trials=0 in=0 out=0 state=running next=15 held=[] numbers={N:0,M:0} strings={LINE:,S1:,A:,TEXTLONG:,C:,B:}\nstep 26: n=0 notes=0 split=- trials=0 in=0 out=0 state=running next=32 held=[] numbers={N:0,M:0} strings={LINE:,S1:,A:,TEXTLONG:,C:,B:}\nstep 27: n=0 notes=0 split=- trials=0 in=0 out=0 state=running next=15 held=[] numbers={N:0,M:0} strings={LINE:,S1:,A:,TEXTLONG:,C:,B:}\nstep 28: n=0 notes=0 split=- trials=0 in=0 out=0 state=running next=32 held=[] numbers={N:0,M:0} strings={LINE:,S1:,A:,TEXTLONG:,C:,B:}\nstep 29: n=0 notes=0 split=- trials=0 in=0 out=0 state=running next=15 held=[] numbers={N:0,M:0} strings={LINE:,S1:,A:,TEXTLONG:,C:,B:}\nstep 30: n=0 notes=0 split=- trials=0 in=0 out=0 state=running next=32 held=[] numbers={N:0,M:0} strings={LINE:,S1:,A:,TEXTLONG:,C:,B:}\nstep 31: n=0 notes=0 split=- trials=0 in=0 out=0 state=running next=15 held=[] numbers={N:0,M:0} strings={LINE:,S1:,A:,TEXTLONG:,C:,B:}\nstep 32: n=0 notes=0 split=- trials=0 in=0 out=0 state=running next=32 held=[] numbers={N:0,M:0} strings={LINE:,S1:,A:,TEXTLONG:,C:,B:}\nstep 33: n=0 notes=0 split=- trials=0 in=0 out=0 state=running next=15 held=[] numbers={N:0,M:0} strings={LINE:,S1:,A:,TEXTLONG:,C:,B:}\nstep 34: n=0 notes=0 split=- trials=0 in=0 out=0 state=running next=32 held=[] numbers={N:0,M:0} strings={LINE:,S1:,A:,TEXTLONG:,C:,B:}\nstep 35: n=0 notes=0 split=- trials=0 in=0 out=0 state=running next=15 held=[] numbers={N:0,M:0} strings={LINE:,S1:,A:,TEXTLONG:,C:,B:}\nstep 36: n=0 notes=0 split=- trials=0 in=0 out=0 state=running next=32 held=[] numbers={N:0,M:0} strings={LINE:,S1:,A:,TEXTLONG:,C:,B:}\nstep 37: n=0 notes=0 split=- trials=0 in=0 out=0 state=running next=15 held=[] numbers={N:0,M:0} strings={LINE:,S1:,A:,TEXTLONG:,C:,B:}\nstep 38: n=0 notes=0 split=- trials=0 in=0 out=0 state=running next=32 held=[] numbers={N:0,M:0} strings={LINE:,S1:,A:,TEXTLONG:,C:,B:}\nstep 39: n=0 notes=0 split=- trials=0 in=0 out=0 state=running next=15 held=[] numbers={N:0,M:0} strings={LINE:,S1:,A:,TEXTLONG:,C:,B:}\nstep 40: n=0 notes=0 split=- trials=0 in=0 out=0 state=running next=32 held=[] numbers={N:0,M:0} strings={LINE:,S1:,A:,TEXTLONG:,C:,B:}\nstep 41: n=0 notes=0 split=- trials=0 in=0 out=0 state=running next=15 held=[] numbers={N:0,M:0} strings={LINE:,S1:,A:,TEXTLONG:,C:,B:}\nstep 42: n=0 notes=0 split=- trials=0 in=0 out=0 state=running next=32 held=[] numbers={N:0,M:0} strings={LINE:,S1:,A:,TEXTLONG:,C:,B:}\nstep 43: n=0 notes=0 split=- trials=0 in=0 out=0 state=running next=15 held=[] numbers={N:0,M:0} strings={LINE:,S1:,A:,TEXTLONG:,C:,B:}\nstep 44: n=0 notes=0 split=- trials=0 in=0 out=0 state=running next=32 held=[] numbers={N:0,M:0} strings={LINE:,S1:,A:,TEXTLONG:,C:,B:}\nstep 45: n=0 notes=0 split=- trials=0 in=0 out=0 state=running next=15 held=[] numbers={N:0,M:0} strings={LINE:,S1:,A:,TEXTLONG:,C:,B:}\nstep 46: n=0 notes=0 split=- trials=0 in=0 out=0 state=running next=32 held=[] numbers={N:0,M:0} strings={LINE:,S1:,A:,TEXTLONG:,C:,B:}\nstep 47: n=0 notes=0 split=- trials=0 in=0 out=0 state=running next=15 held=[] numbers={N:0,M:0} strings={LINE:,S1:,A:,TEXTLONG:,C:,B:}\nstep 48: n=0 notes=0 split=- trials=0 in=0 out=0 state=running next=32 held=[] numbers={N:0,M:0} strings={LINE:,S1:,A:,TEXTLONG:,C:,B:}\nstep 49: n=0 notes=0 split=- trials=0 in=0 out=0 state=running next=15 held=[] numbers={N:0,M:0} strings={LINE:,S1:,A:,TEXTLONG:,C:,B:}\nstep 50: n=0 notes=0 split=- trials=0 in=0 out=0 state=running next=32 held=[] numbers={N:0,M:0} strings={LINE:,S1:,A:,TEXTLONG:,C:,B:}\nstep 51: n=0 notes=0 split=- trials=0 in=0 out=0 state=running next=15 held=[] numbers={N:0,M:0} strings={LINE:,S1:,A:,TEXTLONG:,C:,B:}\nstep 52: n=0 notes=0 split=- trials=0 in=0 out=0 state=running next=32 held=[] numbers={N:0,M:0} strings={LINE:,S1:,A:,TEXTLONG:,C:,B:}\nstep 53: n=0 notes=0 split=- trials=0 in=0 out=0 state=running next=15 held=[] numbers={N:0,M:0} strings={LINE:,S1:,A:,TEXTLONG:,C:,B:}\nstep 54: n=0 notes=0 split=- trials=0 in=0 out=0 state=running next=32 held=[] numbers={N:0,M:0} strings={LINE:,S1:,A:,TEXTLONG:,C:,B:}\nstep 55: n=0 notes=0 split=- trials=0 in=0 out=0 state=running next=15 held=[] numbers={N:0,M:0} strings={LINE:,S1:,A:,TEXTLONG:,C:,B:}\nstep 56: n=0 notes=0 split=- trials=0 in=0 out=0 state=running next=32 held=[] numbers={N:0,M:0} strings={LINE:,S1:,A:,TEXTLONG:,C:,B:}\nstep 57: n=0 notes=0 split=- trials=0 in=0 out=0 state=running next=15 held=[] numbers={N:0,M:0} strings={LINE:,S1:,A:,TEXTLONG:,C:,B:}\nstep 58: n=0 notes=0 split=- trials=0 in=0 out=0 state=running next=32 held=[] numbers={N:0,M:0} strings={LINE:,S1:,A:,TEXTLONG:,C:,B:}\nstep 59: n=0 notes=0 split=- trials=0 in=0 out=0 state=running next=15 held=[] numbers={N:0,M:0} strings={LINE:,S1:,A:,TEXTLONG:,C:,B:}\nstep 60: n=0 notes=0 split=- trials=0 in=0 out=0 state=running next=32 held=[] numbers={N:0,M:0} strings={LINE:,S1:,A:,TEXTLONG:,C:,B:}\n" ≡ true
unfolding agrees
v077 = refl

v078 : agrees "        +PROGRA  M  LOT                                                 SEQ07080\n         S\n         NUMBER N,M,I,K9,COUNT\nLOOP     I=I\nX9       C$3=  A$5\nL3       PRINT(61) STRING(N)                                            SEQ45409\n         WR  ITE (61) ST  RI NG(0,COUNT),\"(\",S1 $K  9,\"1\"\nL1       N=3  *9 *  I\nL2       WRITE \"B\",\" ,2\"\nDONE     END\n" "-A,A00\n\n" "step 1: n=0 notes=0 split=- trials=0 in=0 out=0 state=running next=5 held=[] numbers={N:0,M:0,I:0,K9:0,COUNT:0} strings={C:,A:,S1:}\nstep 2: n=0 notes=0 split=- trials=0 in=0 out=0 state=running next=6 held=[] numbers={N:0,M:0,I:0,K9:0,COUNT:0} strings={C:,A:,S1:}\nstep 3: n=0 notes=0 split=- trials=0 in=0 out=2 state=running next=7 held=[] numbers={N:0,M:0,I:0,K9:0,COUNT:0} strings={C:,A:,S1:}\nstep 4: n=0 notes=0 split=- trials=0 in=0 out=6 state=running next=8 held=[] numbers={N:0,M:0,I:0,K9:0,COUNT:0} strings={C:,A:,S1:}\nstep 5: n=0 notes=0 split=- trials=0 in=0 out=6 state=running next=9 held=[] numbers={N:0,M:0,I:0,K9:0,COUNT:0} strings={C:,A:,S1:}\nstep 6: n=0 notes=0 split=- trials=0 in=0 out=11 state=running next=10 held=[] numbers={N:0,M:0,I:0,K9:0,COUNT:0} strings={C:,A:,S1:}\nstep 7: n=0 notes=0 split=- trials=0 in=0 out=11 state=finished next=10 held=[] numbers={N:0,M:0,I:0,K9:0,COUNT:0} strings={C:,A:,S1:}\n" ≡ true
unfolding agrees
v078 = refl

v079 : agrees "         PROGRAM P\n         NUMBER N,STRING                                                SEQ05683\n         B=PRINT$002,C$N\n         N=2808*160-LENGTH(C)\nL3      *SCA  N C[(B$ STRI\n        XNG), ( PRI NT)]=\"\nIGNORED +B2\", C$ST RING,\"A\n         0\",B \n        XSTRING=N*(N-NUMBER(PRINT)/STRING*(3-N+N*LENGTH(C)+2*(N)+N/LENGT\n         H(PRINT)-N)/STRING*2)*((N)*42)                                 SEQ27197\nL1       STRING=N+2*(+NUMBER(C$6)/5692199*(+NUMBER(PRINT)))             SEQ78459\n         PRINT=\"3\",B$ 5                                                 SEQ42345\n         PRINT=\nLOOP     N=STRING\n* COMMENT 0\n         N=ST RING+LENGTH(PRINT)\n         READ B\nL2       PRINT(61) \n         GOTO LOOP\n         BACKSCAN C$STRING[]=\n         PRINT=STRING(STRING,STRING),STRING(0,N),\"A\"\n DONE    END\n" "\n1\n-+A-0A00A02-\nBA ,+,\nB\nBAB\n,1A,,-\n01,\n" "step 1: n=0 notes=0 split=- trials=0 in=0 out=0 state=running next=4 held=[] numbers={N:0,STRING:0} strings={B:,PRINT:,C:}\nstep 2: n=0 notes=0 split=- trials=0 in=0 out=0 state=running next=5 held=[] numbers={N:449280,STRING:0} strings={B:,PRINT:,C:}\nstep 3: n=0 notes=0 split=0;0,0 trials=1 in=0 out=0 state=running next=9 held=[] numbers={N:449280,STRING:0} strings={B:,PRINT:,C:42324130}\nstep 4: n=18 notes=0 split=- trials=0 in=0 out=0 state=stopped next=9 held=[] numbers={N:449280,STRING:0} strings={B:,PRINT:,C:42324130}\n" ≡ true
unfolding agrees
v079 = refl

v080 : agrees "         PROGRAM TEST1\n         NUMBER N,M,I                                                   SEQ77786\n         PRINT \"(1)2)03=2*)1\"\n         BACKSCAN TEXTLONG$004[(S1),(LINE)]=/L2\n X9      READ LINE$N/L2,X9\n        +I=I-155-(7+(4920*I-NUMBER(C)*(43+LENGTH(S1)-4507)-2353)+7*(+2*N\n         UMBER(A)*00150*NUMBER(C$N)-1)+NUMBER(S1))-2042\n        +SCAN A[\"AB\",(TEXTLONG),                                        SEQ82919\n         (B)]/DONE,X9\n         GO TO X9\n         REA D A $0/DON E\n L2      SCAN TEXTLONG[(S1),\"11\"]/X9\n        CBACKSCAN C[STRING(8,M),\"1\",(TEXTLONG),(TEXTLONG)]=\"**) 33=1),,-\n         \"\nDONE     ROUTINE R 2                                                    SEQ39122\n L3      N=((LENGTH(C))+N*LENGTH(TEXTLONG))\n LOOP    ENDROUTINE\n\n         ROUTINE R1\nL1       SC AN   C$3[]/L1 \n        CSCAN LINE[S1,(S1$2),TEXTLONG$2,(C),(B),\" * $-\",TEXTLONG]=\"A12\"/\n         ,L1\n         B=\",AA AA22A22A\",S1\n         ENDROUTINE\n         I  F(1  =-5)/DONE,DONE\n         S1=C,\"B,BA,\"\n         WRITE(61) B,\"1A1 ,B AA,AA\",C$0\n         IF( I>=+8)/D  ONE\n   \n         IF(NUMERIC(C$000))/L2,X9                                       SEQ04874\n         END\n" "-B-\n,\n+++1,A-2+-AAB,++-,2BA1A---2 A2+1A -AA101\n,20 B-\n" "step 1: n=0 notes=0 split=- trials=0 in=0 out=13 state=running next=4 held=[] numbers={N:0,M:0,I:0} strings={TEXTLONG:,S1:,LINE:,C:,A:,B:}\nstep 2: n=0 notes=0 split=0;0,0 trials=0 in=0 out=13 state=running next=12 held=[] numbers={N:0,M:0,I:0} strings={TEXTLONG:,S1:,LINE:,C:,A:,B:}\nstep 3: n=0 notes=0 split=- trials=1 in=0 out=13 state=running next=13 held=[] numbers={N:0,M:0,I:0} strings={TEXTLONG:,S1:,LINE:,C:,A:,B:}\nstep 4: n=0 notes=0 split=- trials=1 in=0 out=13 state=running next=15 held=[] numbers={N:0,M:0,I:0} strings={TEXTLONG:,S1:,LINE:,C:,A:,B:}\nstep 5: n=0 notes=0 split=- trials=0 in=0 out=13 state=running next=19 held=[] numbers={N:0,M:0,I:0} strings={TEXTLONG:,S1:,LINE:,C:,A:,B:}\nstep 6: n=0 notes=0 split=- trials=0 in=0 out=13 state=running next=25 held=[] numbers={N:0,M:0,I:0} strings={TEXTLONG:,S1:,LINE:,C:,A:,B:}\nstep 7: n=0 notes=0 split=- trials=0 in=0 out=13 state=running next=15 held=[] numbers={N:0,M:0,I:0} strings={TEXTLONG:,S1:,LINE:,C:,A:,B:}\nstep 8: n=0 notes=0 split=- trials=0 in=0 out=13 state=running next=19 held=[] numbers={N:0,M:0,I:0} strings={TEXTLONG:,S1:,LINE:,C:,A:,B:}\nstep 9: n=0 notes=0 split=- trials=0 in=0 out=13 state=running next=25 held=[] numbers={N:0,M:0,I:0} strings={TEXTLONG:,S1:,LINE:,C:,A:,B:}\nstep 10: n=0 notes=0 split=- trials=0 in=0 out=13 state=running next=15 held=[] numbers={N:0,M:0,I:0} strings={TEXTLONG:,S1:,LINE:,C:,A:,B:}\nstep 11: n=0 notes=0 split=- trials=0 in=0 out=13 state=running next=19 held=[] numbers={N:0,M:0,I:0} strings={TEXTLONG:,S1:,LINE:,C:,A:,B:}\nstep 12: n=0 notes=0 split=- trials=0 in=0 out=13 state=running next=25 held=[] numbers={N:0,M:0,I:0} strings={TEXTLONG:,S1:,LINE:,C:,A:,B:}\nstep 13: n=0 notes=0 split=- trials=0 in=0 out=13 state=running next=15 held=[] numbers={N:0,M:0,I:0} strings={TEXTLONG:,S1:,LINE:,C:,A:,B:}\nstep 14: n=0 notes=0 split=- trials=0 in=0 out=13 state=running next=19 held=[] numbers={N:0,M:0,I:0} strings={TEXTLONG:,S1:,LINE:,C:,A:,B:}\nstep 15: n=0 notes=0 split=- trials=0 in=0 out=13 state=running next=25 held=[] numbers={N:0,M:0,I:0} strings={TEXTLONG:,S1:,LINE:,C:,A:,B:}\nstep 16: n=0 notes=0 split=- trials=0 in=0 out=13 state=running next=15 held=[] numbers={N:0,M:0,I:0} strings={TEXTLONG:,S1:,LINE:,C:,A:,B:}\nstep 17: n=0 notes=0 split=- trials=0 in=0 out=13 state=running next=19 held=[] numbers={N:0,M:0,I:0} strings={TEXTLONG:,S1:,LINE:,C:,A:,B:}\nstep 18: n=0 notes=0 split=- trials=0 in=0 out=13 state=running next=25 held=[] numbers={N:0,M:0,I:0} strings={TEXTLONG:,S1:,LINE:,C:,A:,B:}\nstep 19: n=0 notes=0 split=- trials=0 in=0 out=13 state=running next=15 held=[] numbers={N:0,M:0,I:0} strings={TEXTLONG:,S1:,LINE:,C:,A:,B:}\nstep 20: n=0 notes=0 split=- trials=0 in=0 out=13 state=running next=19 held=[] numbers={N:0,M:0,I:0} strings={TEXTLONG:,S1:,LINE:,C:,A:,B:}\nstep 21: n=0 notes=0 split=- trials=0 in=0 out=13 state=running next=25 held=[] numbers={N:0,M:0,I:0} strings={TEXTLONG:,S1:,LINE:,C:,A:,B:}\nstep 22: n=0 notes=0 split=- trials=0 in=0 out=13 state=running next=15 held=[] numbers={N:0,M:0,I:0} strings={TEXTLONG:,S1:,LINE:,C:,A:,B:}\nstep 23: n=0 notes=0 split=- trials=0 in=0 out=13 state=running next=19 held=[] numbers={N:0,M:0,I:0} strings={TEXTLONG:,S1:,LINE:,C:,A:,B:}\nstep 24: n=0 notes=0 split=- trials=0 in=0 out=13 state=running next=25 held=[] numbers={N:0,M:0,I:0} strings={TEXTLONG:,S1:,LINE:,C:,A:,B:}\nstep 25: n=0 notes=0 split=- trials=0 in=0 out=13 state=running next=15 held=[] numbers={N:0,M:0,I:0} strings={TEXTLONG:,S1:,LINE:,C:,A:,B:}\nstep 26: n=0 notes=0 split=- trials=0 in=0 out=13 state=running next=19 held=[] numbers={N:0,M:0,I:0} strings={TEXTLONG:,S1:,LINE:,C:,A:,B:}\nstep 27: n=0 notes=0 split=- trials=0 in=0 out=13 state=running next=25 held=[] numbers={N:0,M:0,I:0} strings={TEXTLONG:,S1:,LINE:,C:,A:,B:}\nstep 28: n=0 notes=0 split=- trials=0 in=0 out=13 state=running next=15 held=[] numbers={N:0,M:0,I:0} strings={TEXTLONG:,S1:,LINE:,C:,A:,B:}\nstep 29: n=0 notes=0 split=- trials=0 in=0 out=13 state=running next=19 held=[] numbers={N:0,M:0,I:0} strings={TEXTLONG:,S1:,LINE:,C:,A:,B:}\nstep 30: n=0 notes=0 split=- trials=0 in=0 out=13 state=running next=25 held=[] numbers={N:0,M:0,I:0} strings={TEXTLONG:,S1:,LINE:,C:,A:,B:}\nstep 31: n=0 notes=0 split=- trials=0 in=0 out=13 state=running next=15 held=[] numbers={N:0,M:0,I:0} strings={TEXTLONG:,S1:,LINE:,C:,A:,B:}\nstep 32: n=0 notes=0 split=- trials=0 in=0 out=13 state=running next=19 held=[] numbers={N:0,M:0,I:0} strings={TEXTLONG:,S1:,LINE:,C:,A:,B:}\nstep 33: n=0 notes=0 split=- trials=0 in=0 out=13 state=running next=25 held=[] numbers={N:0,M:0,I:0} strings={TEXTLONG:,S1:,LINE:,C:,A:,B:}\nstep 34: n=0 notes=0 split=- trials=0 in=0 out=13 state=running next=15 held=[] numbers={N:0,M:0,I:0} strings={TEXTLONG:,S1:,LINE:,C:,A:,B:}\nstep 35: n=0 notes=0 split=- trials=0 in=0 out=13 state=running next=19 held=[] numbers={N:0,M:0,I:0} strings={TEXTLONG:,S1:,LINE:,C:,A:,B:}\nstep 36: n=0 notes=0 split=- trials=0 in=0 out=13 state=running next=25 held=[] numbers={N:0,M:0,I:0} strings={TEXTLONG:,S1:,LINE:,C:,A:,B:}\nstep 37: n=0 notes=0 split=- trials=0 in=0 out=13 state=running next=15 held=[] numbers={N:0,M:0,I:0} strings={TEXTLONG:,S1:,LINE:,C:,A:,B:}\nstep 38: n=0 notes=0 split=- trials=0 in=0 out=13 state=running next=19 held=[] numbers={N:0,M:0,I:0} strings={TEXTLONG:,S1:,LINE:,C:,A:,B:}\nstep 39: n=0 notes=0 split=- trials=0 in=0 out=13 state=running next=25 held=[] numbers={N:0,M:0,I:0} strings={TEXTLONG:,S1:,LINE:,C:,A:,B:}\nstep 40: n=0 notes=0 split=- trials=0 in=0 out=13 state=running next=15 held=[] numbers={N:0,M:0,I:0} strings={TEXTLONG:,S1:,LINE:,C:,A:,B:}\nstep 41: n=0 notes=0 split=- trials=0 in=0 out=13 state=running next=19 held=[] numbers={N:0,M:0,I:0} strings={TEXTLONG:,S1:,LINE:,C:,A:,B:}\nstep 42: n=0 notes=0 split=- trials=0 in=0 out=13 state=running next=25 held=[] numbers={N:0,M:0,I:0} strings={TEXTLONG:,S1:,LINE:,C:,A:,B:}\nstep 43: n=0 notes=0 split=- trials=0 in=0 out=13 state=running next=15 held=[] numbers={N:0,M:0,I:0} strings={TEXTLONG:,S1:,LINE:,C:,A:,B:}\nstep 44: n=0 notes=0 split=- trials=0 in=0 out=13 state=running next=19 held=[] numbers={N:0,M:0,I:0} strings={TEXTLONG:,S1:,LINE:,C:,A:,B:}\nstep 45: n=0 notes=0 split=- trials=0 in=0 out=13 state=running next=25 held=[] numbers={N:0,M:0,I:0} strings={TEXTLONG:,S1:,LINE:,C:,A:,B:}\nstep 46: n=0 notes=0 split=- trials=0 in=0 out=13 state=running next=15 held=[] numbers={N:0,M:0,I:0} strings={TEXTLONG:,S1:,LINE:,C:,A:,B:}\nstep 47: n=0 notes=0 split=- trials=0 in=0 out=13 state=running next=19 held=[] numbers={N:0,M:0,I:0} strings={TEXTLONG:,S1:,LINE:,C:,A:,B:}\nstep 48: n=0 notes=0 split=- trials=0 in=0 out=13 state=running next=25 held=[] numbers={N:0,M:0,I:0} strings={TEXTLONG:,S1:,LINE:,C:,A:,B:}\nstep 49: n=0 notes=0 split=- trials=0 in=0 out=13 state=running next=15 held=[] numbers={N:0,M:0,I:0} strings={TEXTLONG:,S1:,LINE:,C:,A:,B:}\nstep 50: n=0 notes=0 split=- trials=0 in=0 out=13 state=running next=19 held=[] numbers={N:0,M:0,I:0} strings={TEXTLONG:,S1:,LINE:,C:,A:,B:}\nstep 51: n=0 notes=0 split=- trials=0 in=0 out=13 state=running next=25 held=[] numbers={N:0,M:0,I:0} strings={TEXTLONG:,S1:,LINE:,C:,A:,B:}\nstep 52: n=0 notes=0 split=- trials=0 in=0 out=13 state=running next=15 held=[] numbers={N:0,M:0,I:0} strings={TEXTLONG:,S1:,LINE:,C:,A:,B:}\nstep 53: n=0 notes=0 split=- trials=0 in=0 out=13 state=running next=19 held=[] numbers={N:0,M:0,I:0} strings={TEXTLONG:,S1:,LINE:,C:,A:,B:}\nstep 54: n=0 notes=0 split=- trials=0 in=0 out=13 state=running next=25 held=[] numbers={N:0,M:0,I:0} strings={TEXTLONG:,S1:,LINE:,C:,A:,B:}\nstep 55: n=0 notes=0 split=- trials=0 in=0 out=13 state=running next=15 held=[] numbers={N:0,M:0,I:0} strings={TEXTLONG:,S1:,LINE:,C:,A:,B:}\nstep 56: n=0 notes=0 split=- trials=0 in=0 out=13 state=running next=19 held=[] numbers={N:0,M:0,I:0} strings={TEXTLONG:,S1:,LINE:,C:,A:,B:}\nstep 57: n=0 notes=0 split=- trials=0 in=0 out=13 state=running next=25 held=[] numbers={N:0,M:0,I:0} strings={TEXTLONG:,S1:,LINE:,C:,A:,B:}\nstep 58: n=0 notes=0 split=- trials=0 in=0 out=13 state=running next=15 held=[] numbers={N:0,M:0,I:0} strings={TEXTLONG:,S1:,LINE:,C:,A:,B:}\nstep 59: n=0 notes=0 split=- trials=0 in=0 out=13 state=running next=19 held=[] numbers={N:0,M:0,I:0} strings={TEXTLONG:,S1:,LINE:,C:,A:,B:}\nstep 60: n=0 notes=0 split=- trials=0 in=0 out=13 state=running next=25 held=[] numbers={N:0,M:0,I:0} strings={TEXTLONG:,S1:,LINE:,C:,A:,B:}\n" ≡ true
unfolding agrees
v080 = refl

v081 : agrees "         PROGR  AM   LOTS\n         NUMBER N\n* COMMENT 5\nL2       C$ 3=LINE\nL3       ROUTINE R1\n DONE    IF(5>N)/,DONE\n         PRI  NT (61) ST RI NG  (N)\n         ENDROUTINE\n* COMMENT 2\n         LINE= \"2B\"\nLOOP     BACKSCAN B$1[(A),(C)]\n         SCAN C$8[LINE,STRING(-1,N)]=\" A\"/L1,X9\nX9       GO TO L  2\nL1       END                                                            SEQ58429\n" "" "step 1: n=0 notes=0 split=- trials=0 in=0 out=0 state=running next=5 held=[] numbers={N:0} strings={C:,LINE:,B:,A:}\nstep 2: n=0 notes=0 split=- trials=0 in=0 out=0 state=running next=10 held=[] numbers={N:0} strings={C:,LINE:,B:,A:}\nstep 3: n=0 notes=0 split=- trials=0 in=0 out=0 state=running next=11 held=[] numbers={N:0} strings={C:,LINE:3242,B:,A:}\nstep 4: n=0 notes=0 split=0;0,0 trials=0 in=0 out=0 state=running next=12 held=[] numbers={N:0} strings={C:,LINE:3242,B:,A:}\nstep 5: n=0 notes=0 split=- trials=1 in=0 out=0 state=running next=13 held=[] numbers={N:0} strings={C:,LINE:3242,B:,A:}\nstep 6: n=0 notes=0 split=- trials=0 in=0 out=0 state=running next=4 held=[] numbers={N:0} strings={C:,LINE:3242,B:,A:}\nstep 7: n=0 notes=0 split=- trials=0 in=0 out=0 state=running next=5 held=[] numbers={N:0} strings={C:3242,LINE:3242,B:,A:}\nstep 8: n=0 notes=0 split=- trials=0 in=0 out=0 state=running next=10 held=[] numbers={N:0} strings={C:3242,LINE:3242,B:,A:}\nstep 9: n=0 notes=0 split=- trials=0 in=0 out=0 state=running next=11 held=[] numbers={N:0} strings={C:3242,LINE:3242,B:,A:}\nstep 10: n=0 notes=0 split=0;0,0 trials=0 in=0 out=0 state=running next=12 held=[] numbers={N:0} strings={C:,LINE:3242,B:,A:}\nstep 11: n=0 notes=0 split=- trials=1 in=0 out=0 state=running next=13 held=[] numbers={N:0} strings={C:,LINE:3242,B:,A:}\nstep 12: n=0 notes=0 split=- trials=0 in=0 out=0 state=running next=4 held=[] numbers={N:0} strings={C:,LINE:3242,B:,A:}\nstep 13: n=0 notes=0 split=- trials=0 in=0 out=0 state=running next=5 held=[] numbers={N:0} strings={C:3242,LINE:3242,B:,A:}\nstep 14: n=0 notes=0 split=- trials=0 in=0 out=0 state=running next=10 held=[] numbers={N:0} strings={C:3242,LINE:3242,B:,A:}\nstep 15: n=0 notes=0 split=- trials=0 in=0 out=0 state=running next=11 held=[] numbers={N:0} strings={C:3242,LINE:3242,B:,A:}\nstep 16: n=0 notes=0 split=0;0,0 trials=0 in=0 out=0 state=running next=12 held=[] numbers={N:0} strings={C:,LINE:3242,B:,A:}\nstep 17: n=0 notes=0 split=- trials=1 in=0 out=0 state=running next=13 held=[] numbers={N:0} strings={C:,LINE:3242,B:,A:}\nstep 18: n=0 notes=0 split=- trials=0 in=0 out=0 state=running next=4 held=[] numbers={N:0} strings={C:,LINE:3242,B:,A:}\nstep 19: n=0 notes=0 split=- trials=0 in=0 out=0 state=running next=5 held=[] numbers={N:0} strings={C:3242,LINE:3242,B:,A:}\nstep 20: n=0 notes=0 split=- trials=0 in=0 out=0 state=running next=10 held=[] numbers={N:0} strings={C:3242,LINE:3242,B:,A:}\nstep 21: n=0 notes=0 split=- trials=0 in=0 out=0 state=running next=11 held=[] numbers={N:0} strings={C:3242,LINE:3242,B:,A:}\nstep 22: n=0 notes=0 split=0;0,0 trials=0 in=0 out=0 state=running next=12 held=[] numbers={N:0} strings={C:,LINE:3242,B:,A:}\nstep 23: n=0 notes=0 split=- trials=1 in=0 out=0 state=running next=13 held=[] numbers={N:0} strings={C:,LINE:3242,B:,A:}\nstep 24: n=0 notes=0 split=- trials=0 in=0 out=0 state=running next=4 held=[] numbers={N:0} strings={C:,LINE:3242,B:,A:}\nstep 25: n=0 notes=0 split=- trials=0 in=0 out=0 state=running next=5 held=[] numbers={N:0} strings={C:3242,LINE:3242,B:,A:}\nstep 26: n=0 notes=0 split=- trials=0 in=0 out=0 state=running next=10 held=[] numbers={N:0} strings={C:3242,LINE:3242,B:,A:}\nstep 27: n=0 notes=0 split=- trials=0 in=0 out=0 state=running next=11 held=[] numbers={N:0} strings={C:3242,LINE:3242,B:,A:}\nstep 28: n=0 notes=0 split=0;0,0 trials=0 in=0 out=0 state=running next=12 held=[] numbers={N:0} strings={C:,LINE:3242,B:,A:}\nstep 29: n=0 notes=0 split=- trials=1 in=0 out=0 state=running next=13 held=[] numbers={N:0} strings={C:,LINE:3242,B:,A:}\nstep 30: n=0 notes=0 split=- trials=0 in=0 out=0 state=running next=4 held=[] numbers={N:0} strings={C:,LINE:3242,B:,A:}\nstep 31: n=0 notes=0 split=- trials=0 in=0 out=0 state=running next=5 held=[] numbers={N:0} strings={C:3242,LINE:3242,B:,A:}\nstep 32: n=0 notes=0 split=- trials=0 in=0 out=0 state=running next=10 held=[] numbers={N:0} strings={C:3242,LINE:3242,B:,A:}\nstep 33: n=0 notes=0 split=- trials=0 in=0 out=0 state=running next=11 held=[] numbers={N:0} strings={C:3242,LINE:3242,B:,A:}\nstep 34: n=0 notes=0 split=0;0,0 trials=0 in=0 out=0 state=running next=12 held=[] numbers={N:0} strings={C:,LINE:3242,B:,A:}\nstep 35: n=0 notes=0 split=- trials=1 in=0 out=0 state=running next=13 held=[] numbers={N:0} strings={C:,LINE:3242,B:,A:}\nstep 36: n=0 notes=0 split=- trials=0 in=0 out=0 state=running next=4 held=[] numbers={N:0} strings={C:,LINE:3242,B:,A:}\nstep 37: n=0 notes=0 split=- trials=0 in=0 out=0 state=running next=5 held=[] numbers={N:0} strings={C:3242,LINE:3242,B:,A:}\nstep 38: n=0 notes=0 split=- trials=0 in=0 out=0 state=running next=10 held=[] numbers={N:0} strings={C:3242,LINE:3242,B:,A:}\nstep 39: n=0 notes=0 split=- trials=0 in=0 out=0 state=running next=11 held=[] numbers={N:0} strings={C:3242,LINE:3242,B:,A:}\nstep 40: n=0 notes=0 split=0;0,0 trials=0 in=0 out=0 state=running next=12 held=[] numbers={N:0} strings={C:,LINE:3242,B:,A:}\nstep 41: n=0 notes=0 split=- trials=1 in=0 out=0 state=running next=13 held=[] numbers={N:0} strings={C:,LINE:3242,B:,A:}\nstep 42: n=0 notes=0 split=- trials=0 in=0 out=0 state=running next=4 held=[] numbers={N:0} strings={C:,LINE:3242,B:,A:}\nstep 43: n=0 notes=0 split=- trials=0 in=0 out=0 state=running next=5 held=[] numbers={N:0} strings={C:3242,LINE:3242,B:,A:}\nstep 44: n=0 notes=0 split=- trials=0 in=0 out=0 state=running next=10 held=[] numbers={N:0} strings={C:3242,LINE:3242,B:,A:}\nstep 45: n=0 notes=0 split=- trials=0 in=0 out=0 state=running next=11 held=[] numbers={N:0} strings={C:3242,LINE:3242,B:,A:}\nstep 46: n=0 notes=0 split=0;0,0 trials=0 in=0 out=0 state=running next=12 held=[] numbers={N:0} strings={C:,LINE:3242,B:,A:}\nstep 47: n=0 notes=0 split=- trials=1 in=0 out=0 state=running next=13 held=[] numbers={N:0} strings={C:,LINE:3242,B:,A:}\nstep 48: n=0 notes=0 split=- trials=0 in=0 out=0 state=running next=4 held=[] numbers={N:0} strings={C:,LINE:3242,B:,A:}\nstep 49: n=0 notes=0 split=- trials=0 in=0 out=0 state=running next=5 held=[] numbers={N:0} strings={C:3242,LINE:3242,B:,A:}\nstep 50: n=0 notes=0 split=- trials=0 in=0 out=0 state=running next=10 held=[] numbers={N:0} strings={C:3242,LINE:3242,B:,A:}\nstep 51: n=0 notes=0 split=- trials=0 in=0 out=0 state=running next=11 held=[] numbers={N:0} strings={C:3242,LINE:3242,B:,A:}\nstep 52: n=0 notes=0 split=0;0,0 trials=0 in=0 out=0 state=running next=12 held=[] numbers={N:0} strings={C:,LINE:3242,B:,A:}\nstep 53: n=0 notes=0 split=- trials=1 in=0 out=0 state=running next=13 held=[] numbers={N:0} strings={C:,LINE:3242,B:,A:}\nstep 54: n=0 notes=0 split=- trials=0 in=0 out=0 state=running next=4 held=[] numbers={N:0} strings={C:,LINE:3242,B:,A:}\nstep 55: n=0 notes=0 split=- trials=0 in=0 out=0 state=running next=5 held=[] numbers={N:0} strings={C:3242,LINE:3242,B:,A:}\nstep 56: n=0 notes=0 split=- trials=0 in=0 out=0 state=running next=10 held=[] numbers={N:0} strings={C:3242,LINE:3242,B:,A:}\nstep 57: n=0 notes=0 split=- trials=0 in=0 out=0 state=running next=11 held=[] numbers={N:0} strings={C:3242,LINE:3242,B:,A:}\nstep 58: n=0 notes=0 split=0;0,0 trials=0 in=0 out=0 state=running next=12 held=[] numbers={N:0} strings={C:,LINE:3242,B:,A:}\nstep 59: n=0 notes=0 split=- trials=1 in=0 out=0 state=running next=13 held=[] numbers={N:0} strings={C:,LINE:3242,B:,A:}\nstep 60: n=0 notes=0 split=- trials=0 in=0 out=0 state=running next=4 held=[] numbers={N:0} strings={C:,LINE:3242,B:,A:}\n" ≡ true
unfolding agrees
v081 = refl

v082 : agrees "        *PROGRAM\n          TEST1\n         NUMBER N,M\nLOOP     M=M+M-92  \n         READ C\n         C=\"BA\",A ,\"B21A 22B B2B\"\n* COMMENT 3\n         IF(NUMERIC(B$N))/LOOP,LOOP\n        1SCAN C$3[\"1, \",\"A\",(B$3),C,\n         A]=\",\",C\n         GO  TO LO OP\nL1       IF(+4>=M)/,DONE\n                                                                        SEQ\n         READ(60) C$4/L1\nL3       M=LENGTH( A)*N/LENG TH  (B)+M/M\nDONE    CPRINT \n         A,C$N\n* COMMENT 7\n         A=STRI NG (4,  N),B  $N\n         ROUTINE R1\n         N=+N UMBER( C)+N/33  -M*7\n         M= +N+LENGTH(C )  \nL2       WRITE C$2\nX9       ENDROUTINE\n         END\n" " A0102A,,01 \n-\n" "step 1: n=0 notes=0 split=- trials=0 in=0 out=0 state=running next=5 held=[] numbers={N:0,M:-92} strings={C:,A:,B:}\nstep 2: n=0 notes=0 split=- trials=0 in=13 out=0 state=running next=6 held=[] numbers={N:0,M:-92} strings={C:204130313032412c2c303120,A:,B:}\nstep 3: n=0 notes=0 split=- trials=0 in=13 out=0 state=running next=8 held=[] numbers={N:0,M:-92} strings={C:4241423231412032324220423242,A:,B:}\nstep 4: n=0 notes=0 split=- trials=0 in=13 out=0 state=running next=4 held=[] numbers={N:0,M:-92} strings={C:4241423231412032324220423242,A:,B:}\nstep 5: n=0 notes=0 split=- trials=0 in=13 out=0 state=running next=5 held=[] numbers={N:0,M:-276} strings={C:4241423231412032324220423242,A:,B:}\nstep 6: n=0 notes=0 split=- trials=0 in=15 out=0 state=running next=6 held=[] numbers={N:0,M:-276} strings={C:2d,A:,B:}\nstep 7: n=0 notes=0 split=- trials=0 in=15 out=0 state=running next=8 held=[] numbers={N:0,M:-276} strings={C:4241423231412032324220423242,A:,B:}\nstep 8: n=0 notes=0 split=- trials=0 in=15 out=0 state=running next=4 held=[] numbers={N:0,M:-276} strings={C:4241423231412032324220423242,A:,B:}\nstep 9: n=0 notes=0 split=- trials=0 in=15 out=0 state=running next=5 held=[] numbers={N:0,M:-644} strings={C:4241423231412032324220423242,A:,B:}\nstep 10: n=0 notes=0 split=- trials=0 in=15 out=0 state=running next=6 held=[] numbers={N:0,M:-644} strings={C:4241423231412032324220423242,A:,B:}\nstep 11: n=0 notes=0 split=- trials=0 in=15 out=0 state=running next=8 held=[] numbers={N:0,M:-644} strings={C:4241423231412032324220423242,A:,B:}\nstep 12: n=0 notes=0 split=- trials=0 in=15 out=0 state=running next=4 held=[] numbers={N:0,M:-644} strings={C:4241423231412032324220423242,A:,B:}\nstep 13: n=0 notes=0 split=- trials=0 in=15 out=0 state=running next=5 held=[] numbers={N:0,M:-1380} strings={C:4241423231412032324220423242,A:,B:}\nstep 14: n=0 notes=0 split=- trials=0 in=15 out=0 state=running next=6 held=[] numbers={N:0,M:-1380} strings={C:4241423231412032324220423242,A:,B:}\nstep 15: n=0 notes=0 split=- trials=0 in=15 out=0 state=running next=8 held=[] numbers={N:0,M:-1380} strings={C:4241423231412032324220423242,A:,B:}\nstep 16: n=0 notes=0 split=- trials=0 in=15 out=0 state=running next=4 held=[] numbers={N:0,M:-1380} strings={C:4241423231412032324220423242,A:,B:}\nstep 17: n=0 notes=0 split=- trials=0 in=15 out=0 state=running next=5 held=[] numbers={N:0,M:-2852} strings={C:4241423231412032324220423242,A:,B:}\nstep 18: n=0 notes=0 split=- trials=0 in=15 out=0 state=running next=6 held=[] numbers={N:0,M:-2852} strings={C:4241423231412032324220423242,A:,B:}\nstep 19: n=0 notes=0 split=- trials=0 in=15 out=0 state=running next=8 held=[] numbers={N:0,M:-2852} strings={C:4241423231412032324220423242,A:,B:}\nstep 20: n=0 notes=0 split=- trials=0 in=15 out=0 state=running next=4 held=[] numbers={N:0,M:-2852} strings={C:4241423231412032324220423242,A:,B:}\nstep 21: n=0 notes=0 split=- trials=0 in=15 out=0 state=running next=5 held=[] numbers={N:0,M:-5796} strings={C:4241423231412032324220423242,A:,B:}\nstep 22: n=0 notes=0 split=- trials=0 in=15 out=0 state=running next=6 held=[] numbers={N:0,M:-5796} strings={C:4241423231412032324220423242,A:,B:}\nstep 23: n=0 notes=0 split=- trials=0 in=15 out=0 state=running next=8 held=[] numbers={N:0,M:-5796} strings={C:4241423231412032324220423242,A:,B:}\nstep 24: n=0 notes=0 split=- trials=0 in=15 out=0 state=running next=4 held=[] numbers={N:0,M:-5796} strings={C:4241423231412032324220423242,A:,B:}\nstep 25: n=0 notes=0 split=- trials=0 in=15 out=0 state=running next=5 held=[] numbers={N:0,M:-11684} strings={C:4241423231412032324220423242,A:,B:}\nstep 26: n=0 notes=0 split=- trials=0 in=15 out=0 state=running next=6 held=[] numbers={N:0,M:-11684} strings={C:4241423231412032324220423242,A:,B:}\nstep 27: n=0 notes=0 split=- trials=0 in=15 out=0 state=running next=8 held=[] numbers={N:0,M:-11684} strings={C:4241423231412032324220423242,A:,B:}\nstep 28: n=0 notes=0 split=- trials=0 in=15 out=0 state=running next=4 held=[] numbers={N:0,M:-11684} strings={C:4241423231412032324220423242,A:,B:}\nstep 29: n=0 notes=0 split=- trials=0 in=15 out=0 state=running next=5 held=[] numbers={N:0,M:-23460} strings={C:4241423231412032324220423242,A:,B:}\nstep 30: n=0 notes=0 split=- trials=0 in=15 out=0 state=running next=6 held=[] numbers={N:0,M:-23460} strings={C:4241423231412032324220423242,A:,B:}\nstep 31: n=0 notes=0 split=- trials=0 in=15 out=0 state=running next=8 held=[] numbers={N:0,M:-23460} strings={C:4241423231412032324220423242,A:,B:}\nstep 32: n=0 notes=0 split=- trials=0 in=15 out=0 state=running next=4 held=[] numbers={N:0,M:-23460} strings={C:4241423231412032324220423242,A:,B:}\nstep 33: n=0 notes=0 split=- trials=0 in=15 out=0 state=running next=5 held=[] numbers={N:0,M:-47012} strings={C:4241423231412032324220423242,A:,B:}\nstep 34: n=0 notes=0 split=- trials=0 in=15 out=0 state=running next=6 held=[] numbers={N:0,M:-47012} strings={C:4241423231412032324220423242,A:,B:}\nstep 35: n=0 notes=0 split=- trials=0 in=15 out=0 state=running next=8 held=[] numbers={N:0,M:-47012} strings={C:4241423231412032324220423242,A:,B:}\nstep 36: n=0 notes=0 split=- trials=0 in=15 out=0 state=running next=4 held=[] numbers={N:0,M:-47012} strings={C:4241423231412032324220423242,A:,B:}\nstep 37: n=0 notes=0 split=- trials=0 in=15 out=0 state=running next=5 held=[] numbers={N:0,M:-94116} strings={C:4241423231412032324220423242,A:,B:}\nstep 38: n=0 notes=0 split=- trials=0 in=15 out=0 state=running next=6 held=[] numbers={N:0,M:-94116} strings={C:4241423231412032324220423242,A:,B:}\nstep 39: n=0 notes=0 split=- trials=0 in=15 out=0 state=running next=8 held=[] numbers={N:0,M:-94116} strings={C:4241423231412032324220423242,A:,B:}\nstep 40: n=0 notes=0 split=- trials=0 in=15 out=0 state=running next=4 held=[] numbers={N:0,M:-94116} strings={C:4241423231412032324220423242,A:,B:}\nstep 41: n=0 notes=0 split=- trials=0 in=15 out=0 state=running next=5 held=[] numbers={N:0,M:-188324} strings={C:4241423231412032324220423242,A:,B:}\nstep 42: n=0 notes=0 split=- trials=0 in=15 out=0 state=running next=6 held=[] numbers={N:0,M:-188324} strings={C:4241423231412032324220423242,A:,B:}\nstep 43: n=0 notes=0 split=- trials=0 in=15 out=0 state=running next=8 held=[] numbers={N:0,M:-188324} strings={C:4241423231412032324220423242,A:,B:}\nstep 44: n=0 notes=0 split=- trials=0 in=15 out=0 state=running next=4 held=[] numbers={N:0,M:-188324} strings={C:4241423231412032324220423242,A:,B:}\nstep 45: n=0 notes=0 split=- trials=0 in=15 out=0 state=running next=5 held=[] numbers={N:0,M:-376740} strings={C:4241423231412032324220423242,A:,B:}\nstep 46: n=0 notes=0 split=- trials=0 in=15 out=0 state=running next=6 held=[] numbers={N:0,M:-376740} strings={C:4241423231412032324220423242,A:,B:}\nstep 47: n=0 notes=0 split=- trials=0 in=15 out=0 state=running next=8 held=[] numbers={N:0,M:-376740} strings={C:4241423231412032324220423242,A:,B:}\nstep 48: n=0 notes=0 split=- trials=0 in=15 out=0 state=running next=4 held=[] numbers={N:0,M:-376740} strings={C:4241423231412032324220423242,A:,B:}\nstep 49: n=0 notes=0 split=- trials=0 in=15 out=0 state=running next=5 held=[] numbers={N:0,M:-753572} strings={C:4241423231412032324220423242,A:,B:}\nstep 50: n=0 notes=0 split=- trials=0 in=15 out=0 state=running next=6 held=[] numbers={N:0,M:-753572} strings={C:4241423231412032324220423242,A:,B:}\nstep 51: n=0 notes=0 split=- trials=0 in=15 out=0 state=running next=8 held=[] numbers={N:0,M:-753572} strings={C:4241423231412032324220423242,A:,B:}\nstep 52: n=0 notes=0 split=- trials=0 in=15 out=0 state=running next=4 held=[] numbers={N:0,M:-753572} strings={C:4241423231412032324220423242,A:,B:}\nstep 53: n=0 notes=0 split=- trials=0 in=15 out=0 state=running next=5 held=[] numbers={N:0,M:-1507236} strings={C:4241423231412032324220423242,A:,B:}\nstep 54: n=0 notes=0 split=- trials=0 in=15 out=0 state=running next=6 held=[] numbers={N:0,M:-1507236} strings={C:4241423231412032324220423242,A:,B:}\nstep 55: n=0 notes=0 split=- trials=0 in=15 out=0 state=running next=8 held=[] numbers={N:0,M:-1507236} strings={C:4241423231412032324220423242,A:,B:}\nstep 56: n=0 notes=0 split=- trials=0 in=15 out=0 state=running next=4 held=[] numbers={N:0,M:-1507236} strings={C:4241423231412032324220423242,A:,B:}\nstep 57: n=0 notes=0 split=- trials=0 in=15 out=0 state=running next=5 held=[] numbers={N:0,M:-3014564} strings={C:4241423231412032324220423242,A:,B:}\nstep 58: n=0 notes=0 split=- trials=0 in=15 out=0 state=running next=6 held=[] numbers={N:0,M:-3014564} strings={C:4241423231412032324220423242,A:,B:}\nstep 59: n=0 notes=0 split=- trials=0 in=15 out=0 state=running next=8 held=[] numbers={N:0,M:-3014564} strings={C:4241423231412032324220423242,A:,B:}\nstep 60: n=0 notes=0 split=- trials=0 in=15 out=0 state=running next=4 held=[] numbers={N:0,M:-3014564} strings={C:4241423231412032324220423242,A:,B:}\n" ≡ true
unfolding agrees
v082 = refl

v083 : agrees "         PROG  RAM P\n         NU  MBER  N,M,I,K9                                             SEQ65393\n         A=\"A1\",B$N,STRING(K9)\n         ROUTINE R1\n DONE    IF(NUMBER(TEXTLONG)<-0)/DONE,DONE\n         A=\"B\"\nL2       I F(N  U MBE R(B)<> +6) /,DONE\n         ENDROUTINE\nLOOP     B  ACKSCAN  S1$2[]/,X9 \n L1      GOTO X 9\nX9       LINE=\n L3      END\n" " , A- -0 1+A\n, 2\n0-A2, \n\n20-\n\nA22+0-\n02 \n" "step 1: n=0 notes=0 split=- trials=0 in=0 out=0 state=running next=4 held=[] numbers={N:0,M:0,I:0,K9:0} strings={A:413130,B:,TEXTLONG:,S1:,LINE:}\nstep 2: n=0 notes=0 split=- trials=0 in=0 out=0 state=running next=9 held=[] numbers={N:0,M:0,I:0,K9:0} strings={A:413130,B:,TEXTLONG:,S1:,LINE:}\nstep 3: n=0 notes=0 split=0; trials=0 in=0 out=0 state=running next=10 held=[] numbers={N:0,M:0,I:0,K9:0} strings={A:413130,B:,TEXTLONG:,S1:,LINE:}\nstep 4: n=0 notes=0 split=- trials=0 in=0 out=0 state=running next=11 held=[] numbers={N:0,M:0,I:0,K9:0} strings={A:413130,B:,TEXTLONG:,S1:,LINE:}\nstep 5: n=0 notes=0 split=- trials=0 in=0 out=0 state=running next=12 held=[] numbers={N:0,M:0,I:0,K9:0} strings={A:413130,B:,TEXTLONG:,S1:,LINE:}\nstep 6: n=0 notes=0 split=- trials=0 in=0 out=0 state=finished next=12 held=[] numbers={N:0,M:0,I:0,K9:0} strings={A:413130,B:,TEXTLONG:,S1:,LINE:}\n" ≡ true
unfolding agrees
v083 = refl

v084 : agrees "         PROGRAM P\n         NUMBER N,M,I,K9,COUNT\nDONE     IF(I>=+3)/,DONE\nL1       SCAN A[(B$COUN T), (B)]=B,\" 22\"                                SEQ56760\n         M=  19 6-C  OUNT\nL2       SCAN A$N[B,(B$2)]=\"/\"/,L2\n         B=\"A\",  A $N                                                   SEQ51516\nX9       BACKSCAN B$I[(A$3)]=A$2,A,\"$,$\"\nL3       N=((L  E  NGTH( A)))*K9\n LOOP    END\n" "-A+\nAB0 1B\n20- 00B12A0-\n\n" "step 1: n=0 notes=0 split=- trials=0 in=0 out=0 state=running next=3 held=[] numbers={N:0,M:0,I:0,K9:0,COUNT:0} strings={A:,B:}\nstep 2: n=0 notes=0 split=- trials=0 in=0 out=0 state=running next=3 held=[] numbers={N:0,M:0,I:0,K9:0,COUNT:0} strings={A:,B:}\nstep 3: n=0 notes=0 split=- trials=0 in=0 out=0 state=running next=3 held=[] numbers={N:0,M:0,I:0,K9:0,COUNT:0} strings={A:,B:}\nstep 4: n=0 notes=0 split=- trials=0 in=0 out=0 state=running next=3 held=[] numbers={N:0,M:0,I:0,K9:0,COUNT:0} strings={A:,B:}\nstep 5: n=0 notes=0 split=- trials=0 in=0 out=0 state=running next=3 held=[] numbers={N:0,M:0,I:0,K9:0,COUNT:0} strings={A:,B:}\nstep 6: n=0 notes=0 split=- trials=0 in=0 out=0 state=running next=3 held=[] numbers={N:0,M:0,I:0,K9:0,COUNT:0} strings={A:,B:}\nstep 7: n=0 notes=0 split=- trials=0 in=0 out=0 state=running next=3 held=[] numbers={N:0,M:0,I:0,K9:0,COUNT:0} strings={A:,B:}\nstep 8: n=0 notes=0 split=- trials=0 in=0 out=0 state=running next=3 held=[] numbers={N:0,M:0,I:0,K9:0,COUNT:0} strings={A:,B:}\nstep 9: n=0 notes=0 split=- trials=0 in=0 out=0 state=running next=3 held=[] numbers={N:0,M:0,I:0,K9:0,COUNT:0} strings={A:,B:}\nstep 10: n=0 notes=0 split=- trials=0 in=0 out=0 state=running next=3 held=[] numbers={N:0,M:0,I:0,K9:0,COUNT:0} strings={A:,B:}\nstep 11: n=0 notes=0 split=- trials=0 in=0 out=0 state=running next=3 held=[] numbers={N:0,M:0,I:0,K9:0,COUNT:0} strings={A:,B:}\nstep 12: n=0 notes=0 split=- trials=0 in=0 out=0 state=running next=3 held=[] numbers={N:0,M:0,I:0,K9:0,COUNT:0} strings={A:,B:}\nstep 13: n=0 notes=0 split=- trials=0 in=0 out=0 state=running next=3 held=[] numbers={N:0,M:0,I:0,K9:0,COUNT:0} strings={A:,B:}\nstep 14: n=0 notes=0 split=- trials=0 in=0 out=0 state=running next=3 held=[] numbers={N:0,M:0,I:0,K9:0,COUNT:0} strings={A:,B:}\nstep 15: n=0 notes=0 split=- trials=0 in=0 out=0 state=running next=3 held=[] numbers={N:0,M:0,I:0,K9:0,COUNT:0} strings={A:,B:}\nstep 16: n=0 notes=0 split=- trials=0 in=0 out=0 state=running next=3 held=[] numbers={N:0,M:0,I:0,K9:0,COUNT:0} strings={A:,B:}\nstep 17: n=0 notes=0 split=- trials=0 in=0 out=0 state=running next=3 held=[] numbers={N:0,M:0,I:0,K9:0,COUNT:0} strings={A:,B:}\nstep 18: n=0 notes=0 split=- trials=0 in=0 out=0 state=running next=3 held=[] numbers={N:0,M:0,I:0,K9:0,COUNT:0} strings={A:,B:}\nstep 19: n=0 notes=0 split=- trials=0 in=0 out=0 state=running next=3 held=[] numbers={N:0,M:0,I:0,K9:0,COUNT:0} strings={A:,B:}\nstep 20: n=0 notes=0 split=- trials=0 in=0 out=0 state=running next=3 held=[] numbers={N:0,M:0,I:0,K9:0,COUNT:0} strings={A:,B:}\nstep 21: n=0 notes=0 split=- trials=0 in=0 out=0 state=running next=3 held=[] numbers={N:0,M:0,I:0,K9:0,COUNT:0} strings={A:,B:}\nstep 22: n=0 notes=0 split=- trials=0 in=0 out=0 state=running next=3 held=[] numbers={N:0,M:0,I:0,K9:0,COUNT:0} strings={A:,B:}\nstep 23: n=0 notes=0 split=- trials=0 in=0 out=0 state=running next=3 held=[] numbers={N:0,M:0,I:0,K9:0,COUNT:0} strings={A:,B:}\nstep 24: n=0 notes=0 split=- trials=0 in=0 out=0 state=running next=3 held=[] numbers={N:0,M:0,I:0,K9:0,COUNT:0} strings={A:,B:}\nstep 25: n=0 notes=0 split=- trials=0 in=0 out=0 state=running next=3 held=[] numbers={N:0,M:0,I:0,K9:0,COUNT:0} strings={A:,B:}\nstep 26: n=0 notes=0 split=- trials=0 in=0 out=0 state=running next=3 held=[] numbers={N:0,M:0,I:0,K9:0,COUNT:0} strings={A:,B:}\nstep 27: n=0 notes=0 split=- trials=0 in=0 out=0 state=running next=3 held=[] numbers={N:0,M:0,I:0,K9:0,COUNT:0} strings={A:,B:}\nstep 28: n=0 notes=0 split=- trials=0 in=0 out=0 state=running next=3 held=[] numbers={N:0,M:0,I:0,K9:0,COUNT:0} strings={A:,B:}\nstep 29: n=0 notes=0 split=- trials=0 in=0 out=0 state=running next=3 held=[] numbers={N:0,M:0,I:0,K9:0,COUNT:0} strings={A:,B:}\nstep 30: n=0 notes=0 split=- trials=0 in=0 out=0 state=running next=3 held=[] numbers={N:0,M:0,I:0,K9:0,COUNT:0} strings={A:,B:}\nstep 31: n=0 notes=0 split=- trials=0 in=0 out=0 state=running next=3 held=[] numbers={N:0,M:0,I:0,K9:0,COUNT:0} strings={A:,B:}\nstep 32: n=0 notes=0 split=- trials=0 in=0 out=0 state=running next=3 held=[] numbers={N:0,M:0,I:0,K9:0,COUNT:0} strings={A:,B:}\nstep 33: n=0 notes=0 split=- trials=0 in=0 out=0 state=running next=3 held=[] numbers={N:0,M:0,I:0,K9:0,COUNT:0} strings={A:,B:}\nstep 34: n=0 notes=0 split=- trials=0 in=0 out=0 state=running next=3 held=[] numbers={N:0,M:0,I:0,K9:0,COUNT:0} strings={A:,B:}\nstep 35: n=0 notes=0 split=- trials=0 in=0 out=0 state=running next=3 held=[] numbers={N:0,M:0,I:0,K9:0,COUNT:0} strings={A:,B:}\nstep 36: n=0 notes=0 split=- trials=0 in=0 out=0 state=running next=3 held=[] numbers={N:0,M:0,I:0,K9:0,COUNT:0} strings={A:,B:}\nstep 37: n=0 notes=0 split=- trials=0 in=0 out=0 state=running next=3 held=[] numbers={N:0,M:0,I:0,K9:0,COUNT:0} strings={A:,B:}\nstep 38: n=0 notes=0 split=- trials=0 in=0 out=0 state=running next=3 held=[] numbers={N:0,M:0,I:0,K9:0,COUNT:0} strings={A:,B:}\nstep 39: n=0 notes=0 split=- trials=0 in=0 out=0 state=running next=3 held=[] numbers={N:0,M:0,I:0,K9:0,COUNT:0} strings={A:,B:}\nstep 40: n=0 notes=0 split=- trials=0 in=0 out=0 state=running next=3 held=[] numbers={N:0,M:0,I:0,K9:0,COUNT:0} strings={A:,B:}\nstep 41: n=0 notes=0 split=- trials=0 in=0 out=0 state=running next=3 held=[] numbers={N:0,M:0,I:0,K9:0,COUNT:0} strings={A:,B:}\nstep 42: n=0 notes=0 split=- trials=0 in=0 out=0 state=running next=3 held=[] numbers={N:0,M:0,I:0,K9:0,COUNT:0} strings={A:,B:}\nstep 43: n=0 notes=0 split=- trials=0 in=0 out=0 state=running next=3 held=[] numbers={N:0,M:0,I:0,K9:0,COUNT:0} strings={A:,B:}\nstep 44: n=0 notes=0 split=- trials=0 in=0 out=0 state=running next=3 held=[] numbers={N:0,M:0,I:0,K9:0,COUNT:0} strings={A:,B:}\nstep 45: n=0 notes=0 split=- trials=0 in=0 out=0 state=running next=3 held=[] numbers={N:0,M:0,I:0,K9:0,COUNT:0} strings={A:,B:}\nstep 46: n=0 notes=0 split=- trials=0 in=0 out=0 state=running next=3 held=[] numbers={N:0,M:0,I:0,K9:0,COUNT:0} strings={A:,B:}\nstep 47: n=0 notes=0 split=- trials=0 in=0 out=0 state=running next=3 held=[] numbers={N:0,M:0,I:0,K9:0,COUNT:0} strings={A:,B:}\nstep 48: n=0 notes=0 split=- trials=0 in=0 out=0 state=running next=3 held=[] numbers={N:0,M:0,I:0,K9:0,COUNT:0} strings={A:,B:}\nstep 49: n=0 notes=0 split=- trials=0 in=0 out=0 state=running next=3 held=[] numbers={N:0,M:0,I:0,K9:0,COUNT:0} strings={A:,B:}\nstep 50: n=0 notes=0 split=- trials=0 in=0 out=0 state=running next=3 held=[] numbers={N:0,M:0,I:0,K9:0,COUNT:0} strings={A:,B:}\nstep 51: n=0 notes=0 split=- trials=0 in=0 out=0 state=running next=3 held=[] numbers={N:0,M:0,I:0,K9:0,COUNT:0} strings={A:,B:}\nstep 52: n=0 notes=0 split=- trials=0 in=0 out=0 state=running next=3 held=[] numbers={N:0,M:0,I:0,K9:0,COUNT:0} strings={A:,B:}\nstep 53: n=0 notes=0 split=- trials=0 in=0 out=0 state=running next=3 held=[] numbers={N:0,M:0,I:0,K9:0,COUNT:0} strings={A:,B:}\nstep 54: n=0 notes=0 split=- trials=0 in=0 out=0 state=running next=3 held=[] numbers={N:0,M:0,I:0,K9:0,COUNT:0} strings={A:,B:}\nstep 55: n=0 notes=0 split=- trials=0 in=0 out=0 state=running next=3 held=[] numbers={N:0,M:0,I:0,K9:0,COUNT:0} strings={A:,B:}\nstep 56: n=0 notes=0 split=- trials=0 in=0 out=0 state=running next=3 held=[] numbers={N:0,M:0,I:0,K9:0,COUNT:0} strings={A:,B:}\nstep 57: n=0 notes=0 split=- trials=0 in=0 out=0 state=running next=3 held=[] numbers={N:0,M:0,I:0,K9:0,COUNT:0} strings={A:,B:}\nstep 58: n=0 notes=0 split=- trials=0 in=0 out=0 state=running next=3 held=[] numbers={N:0,M:0,I:0,K9:0,COUNT:0} strings={A:,B:}\nstep 59: n=0 notes=0 split=- trials=0 in=0 out=0 state=running next=3 held=[] numbers={N:0,M:0,I:0,K9:0,COUNT:0} strings={A:,B:}\nstep 60: n=0 notes=0 split=- trials=0 in=0 out=0 state=running next=3 held=[] numbers={N:0,M:0,I:0,K9:0,COUNT:0} strings={A:,B:}\n" ≡ true
unfolding agrees
v084 = refl

v085 : agrees "         PROGRAM P                                                      SEQ47195\n         NUMBER N,M                                                     SEQ17310\n         IF(-7>-4)/LOOP\n LOOP    A$N=STRING(1,M),A\n         BA  CKSCAN A[(C),(C)]/,L3\nL2       C=\" B\",\"A,\",C$1\n L1      ROUTINE   R1  \n X9      A=\"1\"\n DONE    ENDROUTINE\nL3       END\n" " \n A10A0\nA1AB+0,-A+0A\n\n +A\n00 \n-\n21A2A1\n" "step 1: n=0 notes=0 split=- trials=0 in=0 out=0 state=running next=4 held=[] numbers={N:0,M:0} strings={A:,C:}\nstep 2: n=0 notes=0 split=- trials=0 in=0 out=0 state=running next=5 held=[] numbers={N:0,M:0} strings={A:30,C:}\nstep 3: n=0 notes=0 split=0;0,1 trials=0 in=0 out=0 state=running next=6 held=[] numbers={N:0,M:0} strings={A:30,C:30}\nstep 4: n=0 notes=0 split=- trials=0 in=0 out=0 state=running next=7 held=[] numbers={N:0,M:0} strings={A:30,C:2042412c30}\nstep 5: n=0 notes=0 split=- trials=0 in=0 out=0 state=running next=10 held=[] numbers={N:0,M:0} strings={A:30,C:2042412c30}\nstep 6: n=0 notes=0 split=- trials=0 in=0 out=0 state=finished next=10 held=[] numbers={N:0,M:0} strings={A:30,C:2042412c30}\n" ≡ true
unfolding agrees
v085 = refl

v086 : agrees "         PROGRAM TEST1\n         NUMBE  R N,M\nLOOP     READ(60) B\nL3       ROUT INE R1  \n L2      READ(60  ) B$M\nX9      +SCAN B[A,(A$0),B\n         $M]\nL1      CENDROUTIN\n         E\nDONE     B=\n         SC  AN A[(B)  ,(B$M),A,( B),(B)] \n* COMMENT 5\n         A =\" \",STRI  NG( 0,M  )\n         SCAN B[(A),STRING(M),(A$3)]=A/,LOOP\n         M=N  \n         M=4-NUMBER(B$M)\n         BACKS  CA N A[\"+0*\",\"1A22AA2 ,AB1\"]=STRING(N )                 SEQ35254\n         SCAN A$M[]/L3,LOOP\n         END\n" "" "step 1: n=0 notes=0 split=- trials=0 in=0 out=0 state=running next=4 held=[] numbers={N:0,M:0} strings={B:,A:}\nstep 2: n=0 notes=0 split=- trials=0 in=0 out=0 state=running next=10 held=[] numbers={N:0,M:0} strings={B:,A:}\nstep 3: n=0 notes=0 split=- trials=0 in=0 out=0 state=running next=11 held=[] numbers={N:0,M:0} strings={B:,A:}\nstep 4: n=0 notes=0 split=0;0,0,0,0,0 trials=2 in=0 out=0 state=running next=13 held=[] numbers={N:0,M:0} strings={B:,A:}\nstep 5: n=0 notes=0 split=- trials=0 in=0 out=0 state=running next=14 held=[] numbers={N:0,M:0} strings={B:,A:2030}\nstep 6: n=0 notes=0 split=- trials=1 in=0 out=0 state=running next=3 held=[] numbers={N:0,M:0} strings={B:,A:}\nstep 7: n=0 notes=0 split=- trials=0 in=0 out=0 state=running next=4 held=[] numbers={N:0,M:0} strings={B:,A:}\nstep 8: n=0 notes=0 split=- trials=0 in=0 out=0 state=running next=10 held=[] numbers={N:0,M:0} strings={B:,A:}\nstep 9: n=0 notes=0 split=- trials=0 in=0 out=0 state=running next=11 held=[] numbers={N:0,M:0} strings={B:,A:}\nstep 10: n=0 notes=0 split=0;0,0,0,0,0 trials=2 in=0 out=0 state=running next=13 held=[] numbers={N:0,M:0} strings={B:,A:}\nstep 11: n=0 notes=0 split=- trials=0 in=0 out=0 state=running next=14 held=[] numbers={N:0,M:0} strings={B:,A:2030}\nstep 12: n=0 notes=0 split=- trials=1 in=0 out=0 state=running next=3 held=[] numbers={N:0,M:0} strings={B:,A:}\nstep 13: n=0 notes=0 split=- trials=0 in=0 out=0 state=running next=4 held=[] numbers={N:0,M:0} strings={B:,A:}\nstep 14: n=0 notes=0 split=- trials=0 in=0 out=0 state=running next=10 held=[] numbers={N:0,M:0} strings={B:,A:}\nstep 15: n=0 notes=0 split=- trials=0 in=0 out=0 state=running next=11 held=[] numbers={N:0,M:0} strings={B:,A:}\nstep 16: n=0 notes=0 split=0;0,0,0,0,0 trials=2 in=0 out=0 state=running next=13 held=[] numbers={N:0,M:0} strings={B:,A:}\nstep 17: n=0 notes=0 split=- trials=0 in=0 out=0 state=running next=14 held=[] numbers={N:0,M:0} strings={B:,A:2030}\nstep 18: n=0 notes=0 split=- trials=1 in=0 out=0 state=running next=3 held=[] numbers={N:0,M:0} strings={B:,A:}\nstep 19: n=0 notes=0 split=- trials=0 in=0 out=0 state=running next=4 held=[] numbers={N:0,M:0} strings={B:,A:}\nstep 20: n=0 notes=0 split=- trials=0 in=0 out=0 state=running next=10 held=[] numbers={N:0,M:0} strings={B:,A:}\nstep 21: n=0 notes=0 split=- trials=0 in=0 out=0 state=running next=11 held=[] numbers={N:0,M:0} strings={B:,A:}\nstep 22: n=0 notes=0 split=0;0,0,0,0,0 trials=2 in=0 out=0 state=running next=13 held=[] numbers={N:0,M:0} strings={B:,A:}\nstep 23: n=0 notes=0 split=- trials=0 in=0 out=0 state=running next=14 held=[] numbers={N:0,M:0} strings={B:,A:2030}\nstep 24: n=0 notes=0 split=- trials=1 in=0 out=0 state=running next=3 held=[] numbers={N:0,M:0} strings={B:,A:}\nstep 25: n=0 notes=0 split=- trials=0 in=0 out=0 state=running next=4 held=[] numbers={N:0,M:0} strings={B:,A:}\nstep 26: n=0 notes=0 split=- trials=0 in=0 out=0 state=running next=10 held=[] numbers={N:0,M:0} strings={B:,A:}\nstep 27: n=0 notes=0 split=- trials=0 in=0 out=0 state=running next=11 held=[] numbers={N:0,M:0} strings={B:,A:}\nstep 28: n=0 notes=0 split=0;0,0,0,0,0 trials=2 in=0 out=0 state=running next=13 held=[] numbers={N:0,M:0} strings={B:,A:}\nstep 29: n=0 notes=0 split=- trials=0 in=0 out=0 state=running next=14 held=[] numbers={N:0,M:0} strings={B:,A:2030}\nstep 30: n=0 notes=0 split=- trials=1 in=0 out=0 state=running next=3 held=[] numbers={N:0,M:0} strings={B:,A:}\nstep 31: n=0 notes=0 split=- trials=0 in=0 out=0 state=running next=4 held=[] numbers={N:0,M:0} strings={B:,A:}\nstep 32: n=0 notes=0 split=- trials=0 in=0 out=0 state=running next=10 held=[] numbers={N:0,M:0} strings={B:,A:}\nstep 33: n=0 notes=0 split=- trials=0 in=0 out=0 state=running next=11 held=[] numbers={N:0,M:0} strings={B:,A:}\nstep 34: n=0 notes=0 split=0;0,0,0,0,0 trials=2 in=0 out=0 state=running next=13 held=[] numbers={N:0,M:0} strings={B:,A:}\nstep 35: n=0 notes=0 split=- trials=0 in=0 out=0 state=running next=14 held=[] numbers={N:0,M:0} strings={B:,A:2030}\nstep 36: n=0 notes=0 split=- trials=1 in=0 out=0 state=running next=3 held=[] numbers={N:0,M:0} strings={B:,A:}\nstep 37: n=0 notes=0 split=- trials=0 in=0 out=0 state=running next=4 held=[] numbers={N:0,M:0} strings={B:,A:}\nstep 38: n=0 notes=0 split=- trials=0 in=0 out=0 state=running next=10 held=[] numbers={N:0,M:0} strings={B:,A:}\nstep 39: n=0 notes=0 split=- trials=0 in=0 out=0 state=running next=11 held=[] numbers={N:0,M:0} strings={B:,A:}\nstep 40: n=0 notes=0 split=0;0,0,0,0,0 trials=2 in=0 out=0 state=running next=13 held=[] numbers={N:0,M:0} strings={B:,A:}\nstep 41: n=0 notes=0 split=- trials=0 in=0 out=0 state=running next=14 held=[] numbers={N:0,M:0} strings={B:,A:2030}\nstep 42: n=0 notes=0 split=- trials=1 in=0 out=0 state=running next=3 held=[] numbers={N:0,M:0} strings={B:,A:}\nstep 43: n=0 notes=0 split=- trials=0 in=0 out=0 state=running next=4 held=[] numbers={N:0,M:0} strings={B:,A:}\nstep 44: n=0 notes=0 split=- trials=0 in=0 out=0 state=running next=10 held=[] numbers={N:0,M:0} strings={B:,A:}\nstep 45: n=0 notes=0 split=- trials=0 in=0 out=0 state=running next=11 held=[] numbers={N:0,M:0} strings={B:,A:}\nstep 46: n=0 notes=0 split=0;0,0,0,0,0 trials=2 in=0 out=0 state=running next=13 held=[] numbers={N:0,M:0} strings={B:,A:}\nstep 47: n=0 notes=0 split=- trials=0 in=0 out=0 state=running next=14 held=[] numbers={N:0,M:0} strings={B:,A:2030}\nstep 48: n=0 notes=0 split=- trials=1 in=0 out=0 state=running next=3 held=[] numbers={N:0,M:0} strings={B:,A:}\nstep 49: n=0 notes=0 split=- trials=0 in=0 out=0 state=running next=4 held=[] numbers={N:0,M:0} strings={B:,A:}\nstep 50: n=0 notes=0 split=- trials=0 in=0 out=0 state=running next=10 held=[] numbers={N:0,M:0} strings={B:,A:}\nstep 51: n=0 notes=0 split=- trials=0 in=0 out=0 state=running next=11 held=[] numbers={N:0,M:0} strings={B:,A:}\nstep 52: n=0 notes=0 split=0;0,0,0,0,0 trials=2 in=0 out=0 state=running next=13 held=[] numbers={N:0,M:0} strings={B:,A:}\nstep 53: n=0 notes=0 split=- trials=0 in=0 out=0 state=running next=14 held=[] numbers={N:0,M:0} strings={B:,A:2030}\nstep 54: n=0 notes=0 split=- trials=1 in=0 out=0 state=running next=3 held=[] numbers={N:0,M:0} strings={B:,A:}\nstep 55: n=0 notes=0 split=- trials=0 in=0 out=0 state=running next=4 held=[] numbers={N:0,M:0} strings={B:,A:}\nstep 56: n=0 notes=0 split=- trials=0 in=0 out=0 state=running next=10 held=[] numbers={N:0,M:0} strings={B:,A:}\nstep 57: n=0 notes=0 split=- trials=0 in=0 out=0 state=running next=11 held=[] numbers={N:0,M:0} strings={B:,A:}\nstep 58: n=0 notes=0 split=0;0,0,0,0,0 trials=2 in=0 out=0 state=running next=13 held=[] numbers={N:0,M:0} strings={B:,A:}\nstep 59: n=0 notes=0 split=- trials=0 in=0 out=0 state=running next=14 held=[] numbers={N:0,M:0} strings={B:,A:2030}\nstep 60: n=0 notes=0 split=- trials=1 in=0 out=0 state=running next=3 held=[] numbers={N:0,M:0} strings={B:,A:}\n" ≡ true
unfolding agrees
v086 = refl

v087 : agrees "         PROGRAM P\n         NUMBER N,M\n         ROUTINE R2\nLOOP     READ S1/LOOP\n         ENDROUTINE\n        XS1=  STR\n        1ING (N,M                                                       SEQ67258\n        C ),\"BB,1                                                       SEQ49735\n          \",\"A\"\n         B=\"$-+2-(1+33*+\"\n L2      R  OUTI  NE R 1\n         W  RI TE STRING(M) \n         SCAN A$M[(S1),C$M,(B),LINE]=STRING(M)/,DONE\nDONE     E NDROUT  IN  E\n         ROUTINE R3\n* COMMENT 6\nX9       E  NDROUTI  NE\nL3       A=\"(\"\n* COMMENT 4\n                                                                        SEQ\nL1       M=8\n         END\n" "A B1+0A,-A1, ,+ A0A+0-2 A,AB +A, A0- 0+A\n1-2,01 AA--0\n22A\n A1--A +ABAB22B0BAAAA, 12A 121, A+2A00+2\nBAA,2-\n-,2A21\n +,0A0A+1,1A1 -,2+20 BA 0B -AA0++BAAB +A\n1 +,B0A0, 1B\n" "step 1: n=0 notes=0 split=- trials=0 in=0 out=0 state=running next=6 held=[] numbers={N:0,M:0} strings={S1:,B:,A:,C:,LINE:}\nstep 2: n=0 notes=0 split=- trials=0 in=0 out=0 state=running next=10 held=[] numbers={N:0,M:0} strings={S1:3042422c31202020202020202020202020202020202020202020202020202020202020202020202020202020202020202020202020202020202020202041,B:,A:,C:,LINE:}\nstep 3: n=0 notes=0 split=- trials=0 in=0 out=0 state=running next=11 held=[] numbers={N:0,M:0} strings={S1:3042422c31202020202020202020202020202020202020202020202020202020202020202020202020202020202020202020202020202020202020202041,B:242d2b322d28312b33332a2b,A:,C:,LINE:}\nstep 4: n=0 notes=0 split=- trials=0 in=0 out=0 state=running next=15 held=[] numbers={N:0,M:0} strings={S1:3042422c31202020202020202020202020202020202020202020202020202020202020202020202020202020202020202020202020202020202020202041,B:242d2b322d28312b33332a2b,A:,C:,LINE:}\nstep 5: n=0 notes=0 split=- trials=0 in=0 out=0 state=running next=18 held=[] numbers={N:0,M:0} strings={S1:3042422c31202020202020202020202020202020202020202020202020202020202020202020202020202020202020202020202020202020202020202041,B:242d2b322d28312b33332a2b,A:,C:,LINE:}\nstep 6: n=0 notes=0 split=- trials=0 in=0 out=0 state=running next=21 held=[] numbers={N:0,M:0} strings={S1:3042422c31202020202020202020202020202020202020202020202020202020202020202020202020202020202020202020202020202020202020202041,B:242d2b322d28312b33332a2b,A:28,C:,LINE:}\nstep 7: n=0 notes=0 split=- trials=0 in=0 out=0 state=running next=22 held=[] numbers={N:0,M:8} strings={S1:3042422c31202020202020202020202020202020202020202020202020202020202020202020202020202020202020202020202020202020202020202041,B:242d2b322d28312b33332a2b,A:28,C:,LINE:}\nstep 8: n=0 notes=0 split=- trials=0 in=0 out=0 state=finished next=22 held=[] numbers={N:0,M:8} strings={S1:3042422c31202020202020202020202020202020202020202020202020202020202020202020202020202020202020202020202020202020202020202041,B:242d2b322d28312b33332a2b,A:28,C:,LINE:}\n" ≡ true
unfolding agrees
v087 = refl

v088 : agrees "         PROGRAM TEST1\n         NUMBER N,M,I,K9,COUNT\n         ROUTINE R3\n         READ F$N/LOOP,LOOP\nLOOP     B$I=B$N\n* COMMENT 3\nL1       IF(4<LE  NGT H ( B  ))  /,  X9\nX9       PRINT STRING(M,COUNT),TEXTLONG$2,LINE$I\n         ENDROUTINE\nL2       ROU T  INE R2\nDONE     K9=LENGTH(F)+COUNT+COUNT/(1)\n* COMMENT 8\n         READ C$I/DONE\n* COMMENT 2\n         ENDROUTINE\n         ROUTIN  E R1\n         READ(60) C$3/L3\nL3       ENDROUTINE                                                     SEQ87488\n         B=A,STRING(N),\"+(\"\n         END\n" "" "step 1: n=0 notes=0 split=- trials=0 in=0 out=0 state=running next=10 held=[] numbers={N:0,M:0,I:0,K9:0,COUNT:0} strings={F:,B:,TEXTLONG:,LINE:,C:,A:}\nstep 2: n=0 notes=0 split=- trials=0 in=0 out=0 state=running next=16 held=[] numbers={N:0,M:0,I:0,K9:0,COUNT:0} strings={F:,B:,TEXTLONG:,LINE:,C:,A:}\nstep 3: n=0 notes=0 split=- trials=0 in=0 out=0 state=running next=19 held=[] numbers={N:0,M:0,I:0,K9:0,COUNT:0} strings={F:,B:,TEXTLONG:,LINE:,C:,A:}\nstep 4: n=0 notes=0 split=- trials=0 in=0 out=0 state=running next=20 held=[] numbers={N:0,M:0,I:0,K9:0,COUNT:0} strings={F:,B:302b28,TEXTLONG:,LINE:,C:,A:}\nstep 5: n=0 notes=0 split=- trials=0 in=0 out=0 state=finished next=20 held=[] numbers={N:0,M:0,I:0,K9:0,COUNT:0} strings={F:,B:302b28,TEXTLONG:,LINE:,C:,A:}\n" ≡ true
unfolding agrees
v088 = refl
