-- Decks with their inputs and traces. Assumes nothing.
use Rattle.std.specs.Prelude.{true, ◌≡◌, refl}
use Rattle.vectors.specs.Trace.{agrees, agrees_whole}

v169 : agrees "         PROGRAM P\n START   NUMBER END,M,I,K9,COUNT\n         K  9=M- EN  D+LEN GTH(B)\n         SCAN RETURN[\"-00\"]=\"BAB\"\nL1       WRITE(61) STRING(END),STRING(COUNT)\n         B=B$ M\n         SCAN B[]/,L3\n         READ RETURN$K9\n L3      BACKS  CAN RET URN$2 [  ]\n         SCAN B[RETURN,(RETURN$0)]=\"1A 2,A2B22A1\"\nLOOP     EXE CUTE R3\n        1RO UTIN E\n          R2\n* COMMENT 2\n         EXECUTE R3\n L2      ENDROUTINE\n         ROUTINE R1\n         B=STRING(K9)\nDONE     SCAN RETURN[(B$I),\"2A,\",(B)]=\n         PRIN  T B$4,STRI NG(K9),  \"2A\", \" B112\"\n         RET  U RN=B,B                                                  SEQ85623\n        +ENDROUTIN\n         E\n         END=-(+2327)\n         PRINT STRING(COUNT),\"AAA 122  ,1B\"\n         B  =\"B3\"\n         ROUTIN  E  R3  \nX9       ENDROUTINE\n         END\n" "++  A2\n" "step 1: n=0 notes=0 split=- trials=0 in=0 out=0 state=running next=4 held=[] numbers={END:0,M:0,I:0,K9:0,COUNT:0} strings={B:,RETURN:}\nstep 2: n=0 notes=0 split=- trials=1 in=0 out=0 state=running next=5 held=[] numbers={END:0,M:0,I:0,K9:0,COUNT:0} strings={B:,RETURN:}\nstep 3: n=0 notes=0 split=- trials=0 in=0 out=3 state=running next=6 held=[] numbers={END:0,M:0,I:0,K9:0,COUNT:0} strings={B:,RETURN:}\nstep 4: n=0 notes=0 split=- trials=0 in=0 out=3 state=running next=7 held=[] numbers={END:0,M:0,I:0,K9:0,COUNT:0} strings={B:,RETURN:}\nstep 5: n=0 notes=0 split=0; trials=0 in=0 out=3 state=running next=8 held=[] numbers={END:0,M:0,I:0,K9:0,COUNT:0} strings={B:,RETURN:}\nstep 6: n=0 notes=0 split=- trials=0 in=0 out=3 state=running next=9 held=[] numbers={END:0,M:0,I:0,K9:0,COUNT:0} strings={B:,RETURN:}\nstep 7: n=0 notes=0 split=0; trials=0 in=0 out=3 state=running next=10 held=[] numbers={END:0,M:0,I:0,K9:0,COUNT:0} strings={B:,RETURN:}\nstep 8: n=0 notes=0 split=0;0,0 trials=2 in=0 out=3 state=running next=11 held=[] numbers={END:0,M:0,I:0,K9:0,COUNT:0} strings={B:314120322c41324232324131,RETURN:}\nstep 9: n=0 notes=0 split=- trials=0 in=0 out=3 state=running next=28 held=[12] numbers={END:0,M:0,I:0,K9:0,COUNT:0} strings={B:314120322c41324232324131,RETURN:}\nstep 10: n=0 notes=0 split=- trials=0 in=0 out=3 state=running next=12 held=[] numbers={END:0,M:0,I:0,K9:0,COUNT:0} strings={B:314120322c41324232324131,RETURN:}\nstep 11: n=0 notes=0 split=- trials=0 in=0 out=3 state=running next=17 held=[] numbers={END:0,M:0,I:0,K9:0,COUNT:0} strings={B:314120322c41324232324131,RETURN:}\nstep 12: n=0 notes=0 split=- trials=0 in=0 out=3 state=running next=24 held=[] numbers={END:0,M:0,I:0,K9:0,COUNT:0} strings={B:314120322c41324232324131,RETURN:}\nstep 13: n=0 notes=0 split=- trials=0 in=0 out=3 state=running next=25 held=[] numbers={END:-2327,M:0,I:0,K9:0,COUNT:0} strings={B:314120322c41324232324131,RETURN:}\nstep 14: n=0 notes=0 split=- trials=0 in=0 out=17 state=running next=26 held=[] numbers={END:-2327,M:0,I:0,K9:0,COUNT:0} strings={B:314120322c41324232324131,RETURN:}\nstep 15: n=0 notes=0 split=- trials=0 in=0 out=17 state=running next=27 held=[] numbers={END:-2327,M:0,I:0,K9:0,COUNT:0} strings={B:4233,RETURN:}\nstep 16: n=0 notes=0 split=- trials=0 in=0 out=17 state=running next=29 held=[] numbers={END:-2327,M:0,I:0,K9:0,COUNT:0} strings={B:4233,RETURN:}\nstep 17: n=0 notes=0 split=- trials=0 in=0 out=17 state=finished next=29 held=[] numbers={END:-2327,M:0,I:0,K9:0,COUNT:0} strings={B:4233,RETURN:}\n" ≡ true
unfolding agrees
v169 = refl

v170 : agrees "         PROGRA  M P\n         N UMBER N ,M\n         N=N                                                            SEQ91401\nL1       ROUTINE R2\n         PRINT(61) \"B1 ABAA BA,2\"\n LOOP    A=  \"BB\",\",+/\"\n         BACKSCAN A[\"*3A,3\",(B)]=A$6,A,B/LOOP\n         ENDRO UTINE\n L3      ROUTINE R1\nX9       IF(+8=NUMBER(A$5))/,X9\n         READ A\n         M= -((3682*3+(M+5 33-N  -LENGTH( B))+105)+(N))\n         A= \"A \"\n DONE    ENDROUTINE\nL2       END                                                            SEQ82394\n" "A,0+-B2A2, -\n\n,A,A22\n\n\nAA1\n1\nA\n" "step 1: n=0 notes=0 split=- trials=0 in=0 out=0 state=running next=4 held=[] numbers={N:0,M:0} strings={A:,B:}\nstep 2: n=0 notes=0 split=- trials=0 in=0 out=0 state=running next=9 held=[] numbers={N:0,M:0} strings={A:,B:}\nstep 3: n=0 notes=0 split=- trials=0 in=0 out=0 state=running next=15 held=[] numbers={N:0,M:0} strings={A:,B:}\nstep 4: n=0 notes=0 split=- trials=0 in=0 out=0 state=finished next=15 held=[] numbers={N:0,M:0} strings={A:,B:}\n" ≡ true
unfolding agrees
v170 = refl

v171 : agrees "         P  R  OGRAM  LO TS\n         NUMBER N,M,I,K9\n         S C  AN A[(S1$ M),(C$K9) ]=TE XTLONG,LINE $  I\n         S1 =S 1 \n         GO TO L1\n         ROUTIN  E R2\n         PRINT \n         TE  XTLONG=TEXTLONG $ M,L INE\n         C$5=\n         RETURN\n L2      ENDROUTINE\n         ROUT  INE  R  1\n         I=LENGTH(  LIN  E)\n         SCAN S1[A$3,S1,\",A\",(LINE),\"AA\"]\n         PRINT(61) TEXTLONG$6\nX9       S1=STRING(M,K9),STRING(0,I),\"A\",\"2B\"\n         ENDROUTINE\nLOOP     WRITE(61) TEXTLONG,C$5,\",B\", C$3\nL3       M=-LENGTH(LINE)-LENGTH(A)*I\nDONE     E  ND\n" "A1-0A,1B+2+B\nA\n0B+-+A\n B,2A-,AB A,\n" "REFUSED 11 0\n" ≡ true
unfolding agrees
v171 = refl

v172 : agrees "         PROGRAM P\n         NUMBER N,M,I,K9,COUNT\nL2       ROUTINE R2\n         LINE=B\nL1       ENDROUTINE\n         ROUTINE R3\n         GOTO L3\n         C=\"AA\"\n         A=B  \n L3      BACKSCA  N TE  XTLONG[\"1B2\"]  =A,S1\n         ENDROUTINE\n         ROU  TINE   R 1\n LOOP    ENDROUTINE\n DONE    PRINT \n         TEXTLONG=B$I\n         BACKSCAN C[C$2,(B$001)]=STRING(M,M),S1/X9\n         C$6=\",AAAA\",\"A2\",S1,F\n         COUNT=2290*0*NUMBER(LINE)*139-8*8\nX9       END\n" "11   +\nA,A0A   1B,-00 A0++,0AA AB 0AA12B+,1A,0,\n" "step 1: n=0 notes=0 split=- trials=0 in=0 out=0 state=running next=6 held=[] numbers={N:0,M:0,I:0,K9:0,COUNT:0} strings={LINE:,B:,C:,A:,TEXTLONG:,S1:,F:}\nstep 2: n=0 notes=0 split=- trials=0 in=0 out=0 state=running next=12 held=[] numbers={N:0,M:0,I:0,K9:0,COUNT:0} strings={LINE:,B:,C:,A:,TEXTLONG:,S1:,F:}\nstep 3: n=0 notes=0 split=- trials=0 in=0 out=0 state=running next=14 held=[] numbers={N:0,M:0,I:0,K9:0,COUNT:0} strings={LINE:,B:,C:,A:,TEXTLONG:,S1:,F:}\nstep 4: n=0 notes=0 split=- trials=0 in=0 out=0 state=running next=15 held=[] numbers={N:0,M:0,I:0,K9:0,COUNT:0} strings={LINE:,B:,C:,A:,TEXTLONG:,S1:,F:}\nstep 5: n=0 notes=0 split=- trials=0 in=0 out=0 state=running next=16 held=[] numbers={N:0,M:0,I:0,K9:0,COUNT:0} strings={LINE:,B:,C:,A:,TEXTLONG:,S1:,F:}\nstep 6: n=0 notes=0 split=- trials=2 in=0 out=0 state=running next=17 held=[] numbers={N:0,M:0,I:0,K9:0,COUNT:0} strings={LINE:,B:,C:,A:,TEXTLONG:,S1:,F:}\nstep 7: n=0 notes=0 split=- trials=0 in=0 out=0 state=running next=18 held=[] numbers={N:0,M:0,I:0,K9:0,COUNT:0} strings={LINE:,B:,C:2c414141414132,A:,TEXTLONG:,S1:,F:}\nstep 8: n=0 notes=1 split=- trials=0 in=0 out=0 state=running next=19 held=[] numbers={N:0,M:0,I:0,K9:0,COUNT:-64} strings={LINE:,B:,C:2c414141414132,A:,TEXTLONG:,S1:,F:}\nstep 9: n=0 notes=0 split=- trials=0 in=0 out=0 state=finished next=19 held=[] numbers={N:0,M:0,I:0,K9:0,COUNT:-64} strings={LINE:,B:,C:2c414141414132,A:,TEXTLONG:,S1:,F:}\n" ≡ true
unfolding agrees
v172 = refl

v173 : agrees "         PRO GRAM P\n         N UMBER  N,M                                                   SEQ11888\nDONE     IF(N>=+2)/DONE,X9\nL2       ROUTINE R2\nL1       PRINT(61) \"*\",STRI NG(0  ,N )                                  SEQ19873\n         N=M\n         ENDROUTINE\nL3       PRINT(61) \"($)*/\"\n         R OUTINE R1\n LOOP    EXIT\n         ENDROUTIN  E                                                   SEQ86401\nX9       N=(+  L  E NGT  H(LINE))-NUMBER(A$2)-110* N\n         C  =STR I NG(  N),S1\n         END                                                            SEQ80931\n" "B\nA+-1A,01B0A++-,0 2A,AA2AA1BA+2A-,A 1-+  \nB+-A2A1A,B+0\n1\n" "step 1: n=0 notes=0 split=- trials=0 in=0 out=0 state=running next=12 held=[] numbers={N:0,M:0} strings={LINE:,A:,C:,S1:}\nstep 2: n=0 notes=1 split=- trials=0 in=0 out=0 state=running next=13 held=[] numbers={N:0,M:0} strings={LINE:,A:,C:,S1:}\nstep 3: n=0 notes=0 split=- trials=0 in=0 out=0 state=running next=14 held=[] numbers={N:0,M:0} strings={LINE:,A:,C:30,S1:}\nstep 4: n=0 notes=0 split=- trials=0 in=0 out=0 state=finished next=14 held=[] numbers={N:0,M:0} strings={LINE:,A:,C:30,S1:}\n" ≡ true
unfolding agrees
v173 = refl

v174 : agrees "         PROGRAM LOTS                                                   SEQ68455\n         NU  MBER N,M,I  ,K9,COUNT\n         B ACKSCAN C  [S1]= C,\"A\"/X9  ,X9\nX9       EXECUTE R1\n         A=TEXTLONG,\"AA,2B1B ,BAA\"\n         BACKSCAN C$7[(F),\"1\"]=\",,\",\"1A\"\n         EXECUTE R3\n         ROUTI  NE R2\n         GOTO L2\n L2      C  OUNT=M/(  I*LE  NGT  H(S  1)*4766)+3\n         B=A\n         ENDRO UTI  NE\n         GO TO X9\n         M=-4-COUNT-148\n         ROUT  INE R3\n         BACKSCAN A[(F)]=/L1,L1\nL1       TEXTLONG=A                                                     SEQ61368\n         LINE=LINE\nLOOP     READ(60)  TEXTLONG                                             SEQ83288\n\nDONE     ENDROUTINE\n         TEXTLONG=\n         PRINT \"B \",LINE\n         I=LEN  GTH(S1)+123                                             SEQ69165\n         PRINT STRING(-6,N)\n         ROU TINE R1\n         TEXTLONG=\"1B  A ,,AABB\",A,TEXTLONG\n         IF(N< > +3 ) / ,L3\nL3       RE  A D S1$K9  / ,L3\n         ENDROUTINE\n         LINE$K9=\"*=(,232B)+ )\",\"1,BA12,,1,A \",C$6,S1                   SEQ43580\n         SCAN S1[\" 2\",STRING(K9,COUNT),C,(F),STRING(0,N),(LINE),(B)]/X9\n         EXECUTE R2\n         END\n" "0+ 1,,+1BA+0,1,,2B  1 2+0A0BA1-BB2AAA12A\n\n1-1A22\n00A,,1\n0 A+0B,ABAA,\n+BA--02A0A--0AB 2AAA -+02B1 +2--A2,,2220\nAA,\n--2,B-1++A2B\n" "step 1: n=0 notes=0 split=0;0 trials=1 in=0 out=0 state=running next=4 held=[] numbers={N:0,M:0,I:0,K9:0,COUNT:0} strings={C:41,S1:,A:,TEXTLONG:,F:,B:,LINE:}\nstep 2: n=0 notes=0 split=- trials=0 in=0 out=0 state=running next=27 held=[5] numbers={N:0,M:0,I:0,K9:0,COUNT:0} strings={C:41,S1:,A:,TEXTLONG:,F:,B:,LINE:}\nstep 3: n=0 notes=0 split=- trials=0 in=0 out=0 state=running next=28 held=[5] numbers={N:0,M:0,I:0,K9:0,COUNT:0} strings={C:41,S1:,A:,TEXTLONG:3142202041202c2c41414242,F:,B:,LINE:}\nstep 4: n=0 notes=0 split=- trials=0 in=0 out=0 state=running next=29 held=[5] numbers={N:0,M:0,I:0,K9:0,COUNT:0} strings={C:41,S1:,A:,TEXTLONG:3142202041202c2c41414242,F:,B:,LINE:}\nstep 5: n=0 notes=0 split=- trials=0 in=0 out=0 state=running next=29 held=[5] numbers={N:0,M:0,I:0,K9:0,COUNT:0} strings={C:41,S1:,A:,TEXTLONG:3142202041202c2c41414242,F:,B:,LINE:}\nstep 6: n=0 notes=0 split=- trials=0 in=0 out=0 state=running next=29 held=[5] numbers={N:0,M:0,I:0,K9:0,COUNT:0} strings={C:41,S1:,A:,TEXTLONG:3142202041202c2c41414242,F:,B:,LINE:}\nstep 7: n=0 notes=0 split=- trials=0 in=0 out=0 state=running next=29 held=[5] numbers={N:0,M:0,I:0,K9:0,COUNT:0} strings={C:41,S1:,A:,TEXTLONG:3142202041202c2c41414242,F:,B:,LINE:}\nstep 8: n=0 notes=0 split=- trials=0 in=0 out=0 state=running next=29 held=[5] numbers={N:0,M:0,I:0,K9:0,COUNT:0} strings={C:41,S1:,A:,TEXTLONG:3142202041202c2c41414242,F:,B:,LINE:}\nstep 9: n=0 notes=0 split=- trials=0 in=0 out=0 state=running next=29 held=[5] numbers={N:0,M:0,I:0,K9:0,COUNT:0} strings={C:41,S1:,A:,TEXTLONG:3142202041202c2c41414242,F:,B:,LINE:}\nstep 10: n=0 notes=0 split=- trials=0 in=0 out=0 state=running next=29 held=[5] numbers={N:0,M:0,I:0,K9:0,COUNT:0} strings={C:41,S1:,A:,TEXTLONG:3142202041202c2c41414242,F:,B:,LINE:}\nstep 11: n=0 notes=0 split=- trials=0 in=0 out=0 state=running next=29 held=[5] numbers={N:0,M:0,I:0,K9:0,COUNT:0} strings={C:41,S1:,A:,TEXTLONG:3142202041202c2c41414242,F:,B:,LINE:}\nstep 12: n=0 notes=0 split=- trials=0 in=0 out=0 state=running next=29 held=[5] numbers={N:0,M:0,I:0,K9:0,COUNT:0} strings={C:41,S1:,A:,TEXTLONG:3142202041202c2c41414242,F:,B:,LINE:}\nstep 13: n=0 notes=0 split=- trials=0 in=0 out=0 state=running next=29 held=[5] numbers={N:0,M:0,I:0,K9:0,COUNT:0} strings={C:41,S1:,A:,TEXTLONG:3142202041202c2c41414242,F:,B:,LINE:}\nstep 14: n=0 notes=0 split=- trials=0 in=0 out=0 state=running next=29 held=[5] numbers={N:0,M:0,I:0,K9:0,COUNT:0} strings={C:41,S1:,A:,TEXTLONG:3142202041202c2c41414242,F:,B:,LINE:}\nstep 15: n=0 notes=0 split=- trials=0 in=0 out=0 state=running next=29 held=[5] numbers={N:0,M:0,I:0,K9:0,COUNT:0} strings={C:41,S1:,A:,TEXTLONG:3142202041202c2c41414242,F:,B:,LINE:}\nstep 16: n=0 notes=0 split=- trials=0 in=0 out=0 state=running next=29 held=[5] numbers={N:0,M:0,I:0,K9:0,COUNT:0} strings={C:41,S1:,A:,TEXTLONG:3142202041202c2c41414242,F:,B:,LINE:}\nstep 17: n=0 notes=0 split=- trials=0 in=0 out=0 state=running next=29 held=[5] numbers={N:0,M:0,I:0,K9:0,COUNT:0} strings={C:41,S1:,A:,TEXTLONG:3142202041202c2c41414242,F:,B:,LINE:}\nstep 18: n=0 notes=0 split=- trials=0 in=0 out=0 state=running next=29 held=[5] numbers={N:0,M:0,I:0,K9:0,COUNT:0} strings={C:41,S1:,A:,TEXTLONG:3142202041202c2c41414242,F:,B:,LINE:}\nstep 19: n=0 notes=0 split=- trials=0 in=0 out=0 state=running next=29 held=[5] numbers={N:0,M:0,I:0,K9:0,COUNT:0} strings={C:41,S1:,A:,TEXTLONG:3142202041202c2c41414242,F:,B:,LINE:}\nstep 20: n=0 notes=0 split=- trials=0 in=0 out=0 state=running next=29 held=[5] numbers={N:0,M:0,I:0,K9:0,COUNT:0} strings={C:41,S1:,A:,TEXTLONG:3142202041202c2c41414242,F:,B:,LINE:}\nstep 21: n=0 notes=0 split=- trials=0 in=0 out=0 state=running next=29 held=[5] numbers={N:0,M:0,I:0,K9:0,COUNT:0} strings={C:41,S1:,A:,TEXTLONG:3142202041202c2c41414242,F:,B:,LINE:}\nstep 22: n=0 notes=0 split=- trials=0 in=0 out=0 state=running next=29 held=[5] numbers={N:0,M:0,I:0,K9:0,COUNT:0} strings={C:41,S1:,A:,TEXTLONG:3142202041202c2c41414242,F:,B:,LINE:}\nstep 23: n=0 notes=0 split=- trials=0 in=0 out=0 state=running next=29 held=[5] numbers={N:0,M:0,I:0,K9:0,COUNT:0} strings={C:41,S1:,A:,TEXTLONG:3142202041202c2c41414242,F:,B:,LINE:}\nstep 24: n=0 notes=0 split=- trials=0 in=0 out=0 state=running next=29 held=[5] numbers={N:0,M:0,I:0,K9:0,COUNT:0} strings={C:41,S1:,A:,TEXTLONG:3142202041202c2c41414242,F:,B:,LINE:}\nstep 25: n=0 notes=0 split=- trials=0 in=0 out=0 state=running next=29 held=[5] numbers={N:0,M:0,I:0,K9:0,COUNT:0} strings={C:41,S1:,A:,TEXTLONG:3142202041202c2c41414242,F:,B:,LINE:}\nstep 26: n=0 notes=0 split=- trials=0 in=0 out=0 state=running next=29 held=[5] numbers={N:0,M:0,I:0,K9:0,COUNT:0} strings={C:41,S1:,A:,TEXTLONG:3142202041202c2c41414242,F:,B:,LINE:}\nstep 27: n=0 notes=0 split=- trials=0 in=0 out=0 state=running next=29 held=[5] numbers={N:0,M:0,I:0,K9:0,COUNT:0} strings={C:41,S1:,A:,TEXTLONG:3142202041202c2c41414242,F:,B:,LINE:}\nstep 28: n=0 notes=0 split=- trials=0 in=0 out=0 state=running next=29 held=[5] numbers={N:0,M:0,I:0,K9:0,COUNT:0} strings={C:41,S1:,A:,TEXTLONG:3142202041202c2c41414242,F:,B:,LINE:}\nstep 29: n=0 notes=0 split=- trials=0 in=0 out=0 state=running next=29 held=[5] numbers={N:0,M:0,I:0,K9:0,COUNT:0} strings={C:41,S1:,A:,TEXTLONG:3142202041202c2c41414242,F:,B:,LINE:}\nstep 30: n=0 notes=0 split=- trials=0 in=0 out=0 state=running next=29 held=[5] numbers={N:0,M:0,I:0,K9:0,COUNT:0} strings={C:41,S1:,A:,TEXTLONG:3142202041202c2c41414242,F:,B:,LINE:}\nstep 31: n=0 notes=0 split=- trials=0 in=0 out=0 state=running next=29 held=[5] numbers={N:0,M:0,I:0,K9:0,COUNT:0} strings={C:41,S1:,A:,TEXTLONG:3142202041202c2c41414242,F:,B:,LINE:}\nstep 32: n=0 notes=0 split=- trials=0 in=0 out=0 state=running next=29 held=[5] numbers={N:0,M:0,I:0,K9:0,COUNT:0} strings={C:41,S1:,A:,TEXTLONG:3142202041202c2c41414242,F:,B:,LINE:}\nstep 33: n=0 notes=0 split=- trials=0 in=0 out=0 state=running next=29 held=[5] numbers={N:0,M:0,I:0,K9:0,COUNT:0} strings={C:41,S1:,A:,TEXTLONG:3142202041202c2c41414242,F:,B:,LINE:}\nstep 34: n=0 notes=0 split=- trials=0 in=0 out=0 state=running next=29 held=[5] numbers={N:0,M:0,I:0,K9:0,COUNT:0} strings={C:41,S1:,A:,TEXTLONG:3142202041202c2c41414242,F:,B:,LINE:}\nstep 35: n=0 notes=0 split=- trials=0 in=0 out=0 state=running next=29 held=[5] numbers={N:0,M:0,I:0,K9:0,COUNT:0} strings={C:41,S1:,A:,TEXTLONG:3142202041202c2c41414242,F:,B:,LINE:}\nstep 36: n=0 notes=0 split=- trials=0 in=0 out=0 state=running next=29 held=[5] numbers={N:0,M:0,I:0,K9:0,COUNT:0} strings={C:41,S1:,A:,TEXTLONG:3142202041202c2c41414242,F:,B:,LINE:}\nstep 37: n=0 notes=0 split=- trials=0 in=0 out=0 state=running next=29 held=[5] numbers={N:0,M:0,I:0,K9:0,COUNT:0} strings={C:41,S1:,A:,TEXTLONG:3142202041202c2c41414242,F:,B:,LINE:}\nstep 38: n=0 notes=0 split=- trials=0 in=0 out=0 state=running next=29 held=[5] numbers={N:0,M:0,I:0,K9:0,COUNT:0} strings={C:41,S1:,A:,TEXTLONG:3142202041202c2c41414242,F:,B:,LINE:}\nstep 39: n=0 notes=0 split=- trials=0 in=0 out=0 state=running next=29 held=[5] numbers={N:0,M:0,I:0,K9:0,COUNT:0} strings={C:41,S1:,A:,TEXTLONG:3142202041202c2c41414242,F:,B:,LINE:}\nstep 40: n=0 notes=0 split=- trials=0 in=0 out=0 state=running next=29 held=[5] numbers={N:0,M:0,I:0,K9:0,COUNT:0} strings={C:41,S1:,A:,TEXTLONG:3142202041202c2c41414242,F:,B:,LINE:}\nstep 41: n=0 notes=0 split=- trials=0 in=0 out=0 state=running next=29 held=[5] numbers={N:0,M:0,I:0,K9:0,COUNT:0} strings={C:41,S1:,A:,TEXTLONG:3142202041202c2c41414242,F:,B:,LINE:}\nstep 42: n=0 notes=0 split=- trials=0 in=0 out=0 state=running next=29 held=[5] numbers={N:0,M:0,I:0,K9:0,COUNT:0} strings={C:41,S1:,A:,TEXTLONG:3142202041202c2c41414242,F:,B:,LINE:}\nstep 43: n=0 notes=0 split=- trials=0 in=0 out=0 state=running next=29 held=[5] numbers={N:0,M:0,I:0,K9:0,COUNT:0} strings={C:41,S1:,A:,TEXTLONG:3142202041202c2c41414242,F:,B:,LINE:}\nstep 44: n=0 notes=0 split=- trials=0 in=0 out=0 state=running next=29 held=[5] numbers={N:0,M:0,I:0,K9:0,COUNT:0} strings={C:41,S1:,A:,TEXTLONG:3142202041202c2c41414242,F:,B:,LINE:}\nstep 45: n=0 notes=0 split=- trials=0 in=0 out=0 state=running next=29 held=[5] numbers={N:0,M:0,I:0,K9:0,COUNT:0} strings={C:41,S1:,A:,TEXTLONG:3142202041202c2c41414242,F:,B:,LINE:}\nstep 46: n=0 notes=0 split=- trials=0 in=0 out=0 state=running next=29 held=[5] numbers={N:0,M:0,I:0,K9:0,COUNT:0} strings={C:41,S1:,A:,TEXTLONG:3142202041202c2c41414242,F:,B:,LINE:}\nstep 47: n=0 notes=0 split=- trials=0 in=0 out=0 state=running next=29 held=[5] numbers={N:0,M:0,I:0,K9:0,COUNT:0} strings={C:41,S1:,A:,TEXTLONG:3142202041202c2c41414242,F:,B:,LINE:}\nstep 48: n=0 notes=0 split=- trials=0 in=0 out=0 state=running next=29 held=[5] numbers={N:0,M:0,I:0,K9:0,COUNT:0} strings={C:41,S1:,A:,TEXTLONG:3142202041202c2c41414242,F:,B:,LINE:}\nstep 49: n=0 notes=0 split=- trials=0 in=0 out=0 state=running next=29 held=[5] numbers={N:0,M:0,I:0,K9:0,COUNT:0} strings={C:41,S1:,A:,TEXTLONG:3142202041202c2c41414242,F:,B:,LINE:}\nstep 50: n=0 notes=0 split=- trials=0 in=0 out=0 state=running next=29 held=[5] numbers={N:0,M:0,I:0,K9:0,COUNT:0} strings={C:41,S1:,A:,TEXTLONG:3142202041202c2c41414242,F:,B:,LINE:}\nstep 51: n=0 notes=0 split=- trials=0 in=0 out=0 state=running next=29 held=[5] numbers={N:0,M:0,I:0,K9:0,COUNT:0} strings={C:41,S1:,A:,TEXTLONG:3142202041202c2c41414242,F:,B:,LINE:}\nstep 52: n=0 notes=0 split=- trials=0 in=0 out=0 state=running next=29 held=[5] numbers={N:0,M:0,I:0,K9:0,COUNT:0} strings={C:41,S1:,A:,TEXTLONG:3142202041202c2c41414242,F:,B:,LINE:}\nstep 53: n=0 notes=0 split=- trials=0 in=0 out=0 state=running next=29 held=[5] numbers={N:0,M:0,I:0,K9:0,COUNT:0} strings={C:41,S1:,A:,TEXTLONG:3142202041202c2c41414242,F:,B:,LINE:}\nstep 54: n=0 notes=0 split=- trials=0 in=0 out=0 state=running next=29 held=[5] numbers={N:0,M:0,I:0,K9:0,COUNT:0} strings={C:41,S1:,A:,TEXTLONG:3142202041202c2c41414242,F:,B:,LINE:}\nstep 55: n=0 notes=0 split=- trials=0 in=0 out=0 state=running next=29 held=[5] numbers={N:0,M:0,I:0,K9:0,COUNT:0} strings={C:41,S1:,A:,TEXTLONG:3142202041202c2c41414242,F:,B:,LINE:}\nstep 56: n=0 notes=0 split=- trials=0 in=0 out=0 state=running next=29 held=[5] numbers={N:0,M:0,I:0,K9:0,COUNT:0} strings={C:41,S1:,A:,TEXTLONG:3142202041202c2c41414242,F:,B:,LINE:}\nstep 57: n=0 notes=0 split=- trials=0 in=0 out=0 state=running next=29 held=[5] numbers={N:0,M:0,I:0,K9:0,COUNT:0} strings={C:41,S1:,A:,TEXTLONG:3142202041202c2c41414242,F:,B:,LINE:}\nstep 58: n=0 notes=0 split=- trials=0 in=0 out=0 state=running next=29 held=[5] numbers={N:0,M:0,I:0,K9:0,COUNT:0} strings={C:41,S1:,A:,TEXTLONG:3142202041202c2c41414242,F:,B:,LINE:}\nstep 59: n=0 notes=0 split=- trials=0 in=0 out=0 state=running next=29 held=[5] numbers={N:0,M:0,I:0,K9:0,COUNT:0} strings={C:41,S1:,A:,TEXTLONG:3142202041202c2c41414242,F:,B:,LINE:}\nstep 60: n=0 notes=0 split=- trials=0 in=0 out=0 state=running next=29 held=[5] numbers={N:0,M:0,I:0,K9:0,COUNT:0} strings={C:41,S1:,A:,TEXTLONG:3142202041202c2c41414242,F:,B:,LINE:}\n" ≡ true
unfolding agrees
v174 = refl

v175 : agrees "         PROGRAM LOT  S                                                 SEQ24438\n         NUMBER N,M,I\n         C=\n         N=N-  2-41\n         READ B$N/,X9\n         READ C/X9\n         ROUT INE R3                                                    SEQ36275\n         I = LEN GTH(A )*(  (N  UMBE  R (A))-LENGTH(S1  ))  -4 0\n         B  $2=\n* COMMENT 7\n         SCAN B$6[S1]=STRING(N),A,\"B1\"/DONE,DONE\nDONE     ENDROUT INE\n         ROU  TI NE R2\nL3       GO   TO   L1\n         SCAN   B[(S 1  $1  ) ,(  S1),(C )]=  \"2+\"\nL1       WRITE \"A\",\"3\",B$I\n         M=(2758459/111)\n         ENDROUTINE\n X9      M=N+(N)\n         ROUTINE R1\n        *BACKSCAN S1  [( B$3)]=\"(\"/L\n         OOP,LOOP\n         READ A\n* COMMENT 9\n LOOP    M =N *LENGTH(A  )\n         S1$N= \"-$**A\"\nL2       ENDROUTINE\n         END\n" "2A+++B\n" "step 1: n=0 notes=0 split=- trials=0 in=0 out=0 state=running next=4 held=[] numbers={N:0,M:0,I:0} strings={C:,B:,A:,S1:}\nstep 2: n=0 notes=0 split=- trials=0 in=0 out=0 state=running next=5 held=[] numbers={N:-43,M:0,I:0} strings={C:,B:,A:,S1:}\nstep 3: n=17 notes=0 split=- trials=0 in=0 out=0 state=stopped next=5 held=[] numbers={N:-43,M:0,I:0} strings={C:,B:,A:,S1:}\n" ≡ true
unfolding agrees
v175 = refl

v176 : agrees "         PROGRAM TEST1\n         NUMBER N,M\n         READ C/L3\n         S1=\"AA\"\n LOOP    ROUTINE R3\n\nL2       ENDR  OUTINE                                                   SEQ56584\n         ROUTINE R2\n         N=+LE NGTH (  LINE)  *193+LEN GTH(B)-(-M)\n         N=N                                                            SEQ40611\nL1       READ(60) A$0/L1,L1\n         ENDROUTINE\n L3      ROUTINE R1\n         A$N=STRING(0,N)                                                SEQ43545\n         IF(LENGTH(C)<=N)/DONE,DONE\n         A=\"$/) 00*A)0-/\"\n         N=LENGTH(S 1 )/4*M*M\nDONE     ENDROUTINE\nX9       END\n" "-+-\n-B +-1+,-,B \n" "step 1: n=0 notes=0 split=- trials=0 in=4 out=0 state=running next=13 held=[] numbers={N:0,M:0} strings={C:2d2b2d,S1:,LINE:,B:,A:}\nstep 2: n=0 notes=0 split=- trials=0 in=4 out=0 state=running next=19 held=[] numbers={N:0,M:0} strings={C:2d2b2d,S1:,LINE:,B:,A:}\nstep 3: n=0 notes=0 split=- trials=0 in=4 out=0 state=finished next=19 held=[] numbers={N:0,M:0} strings={C:2d2b2d,S1:,LINE:,B:,A:}\n" ≡ true
unfolding agrees
v176 = refl

v177 : agrees "         PROGRAM LO TS\n         NUM BER N,M\n L3      IF  (8<>5)/L3                                                  SEQ12356\n* COMMENT 1\n                                                                        SEQ\n         S1$M=  \",,\"\n         N=3295\nL2       N=N+LENGTH(C)/118\nL1       IF(5>M)/,L3\nX9       WRITE A$N,C,STRING(M)\n DONE    M=-LENGTH(B)*4+(M)/(N)\n         END\n" "\n\n -AA A+0AAAB\n \n" "step 1: n=0 notes=0 split=- trials=0 in=0 out=0 state=running next=3 held=[] numbers={N:0,M:0} strings={S1:,C:,A:,B:}\nstep 2: n=0 notes=0 split=- trials=0 in=0 out=0 state=running next=3 held=[] numbers={N:0,M:0} strings={S1:,C:,A:,B:}\nstep 3: n=0 notes=0 split=- trials=0 in=0 out=0 state=running next=3 held=[] numbers={N:0,M:0} strings={S1:,C:,A:,B:}\nstep 4: n=0 notes=0 split=- trials=0 in=0 out=0 state=running next=3 held=[] numbers={N:0,M:0} strings={S1:,C:,A:,B:}\nstep 5: n=0 notes=0 split=- trials=0 in=0 out=0 state=running next=3 held=[] numbers={N:0,M:0} strings={S1:,C:,A:,B:}\nstep 6: n=0 notes=0 split=- trials=0 in=0 out=0 state=running next=3 held=[] numbers={N:0,M:0} strings={S1:,C:,A:,B:}\nstep 7: n=0 notes=0 split=- trials=0 in=0 out=0 state=running next=3 held=[] numbers={N:0,M:0} strings={S1:,C:,A:,B:}\nstep 8: n=0 notes=0 split=- trials=0 in=0 out=0 state=running next=3 held=[] numbers={N:0,M:0} strings={S1:,C:,A:,B:}\nstep 9: n=0 notes=0 split=- trials=0 in=0 out=0 state=running next=3 held=[] numbers={N:0,M:0} strings={S1:,C:,A:,B:}\nstep 10: n=0 notes=0 split=- trials=0 in=0 out=0 state=running next=3 held=[] numbers={N:0,M:0} strings={S1:,C:,A:,B:}\nstep 11: n=0 notes=0 split=- trials=0 in=0 out=0 state=running next=3 held=[] numbers={N:0,M:0} strings={S1:,C:,A:,B:}\nstep 12: n=0 notes=0 split=- trials=0 in=0 out=0 state=running next=3 held=[] numbers={N:0,M:0} strings={S1:,C:,A:,B:}\nstep 13: n=0 notes=0 split=- trials=0 in=0 out=0 state=running next=3 held=[] numbers={N:0,M:0} strings={S1:,C:,A:,B:}\nstep 14: n=0 notes=0 split=- trials=0 in=0 out=0 state=running next=3 held=[] numbers={N:0,M:0} strings={S1:,C:,A:,B:}\nstep 15: n=0 notes=0 split=- trials=0 in=0 out=0 state=running next=3 held=[] numbers={N:0,M:0} strings={S1:,C:,A:,B:}\nstep 16: n=0 notes=0 split=- trials=0 in=0 out=0 state=running next=3 held=[] numbers={N:0,M:0} strings={S1:,C:,A:,B:}\nstep 17: n=0 notes=0 split=- trials=0 in=0 out=0 state=running next=3 held=[] numbers={N:0,M:0} strings={S1:,C:,A:,B:}\nstep 18: n=0 notes=0 split=- trials=0 in=0 out=0 state=running next=3 held=[] numbers={N:0,M:0} strings={S1:,C:,A:,B:}\nstep 19: n=0 notes=0 split=- trials=0 in=0 out=0 state=running next=3 held=[] numbers={N:0,M:0} strings={S1:,C:,A:,B:}\nstep 20: n=0 notes=0 split=- trials=0 in=0 out=0 state=running next=3 held=[] numbers={N:0,M:0} strings={S1:,C:,A:,B:}\nstep 21: n=0 notes=0 split=- trials=0 in=0 out=0 state=running next=3 held=[] numbers={N:0,M:0} strings={S1:,C:,A:,B:}\nstep 22: n=0 notes=0 split=- trials=0 in=0 out=0 state=running next=3 held=[] numbers={N:0,M:0} strings={S1:,C:,A:,B:}\nstep 23: n=0 notes=0 split=- trials=0 in=0 out=0 state=running next=3 held=[] numbers={N:0,M:0} strings={S1:,C:,A:,B:}\nstep 24: n=0 notes=0 split=- trials=0 in=0 out=0 state=running next=3 held=[] numbers={N:0,M:0} strings={S1:,C:,A:,B:}\nstep 25: n=0 notes=0 split=- trials=0 in=0 out=0 state=running next=3 held=[] numbers={N:0,M:0} strings={S1:,C:,A:,B:}\nstep 26: n=0 notes=0 split=- trials=0 in=0 out=0 state=running next=3 held=[] numbers={N:0,M:0} strings={S1:,C:,A:,B:}\nstep 27: n=0 notes=0 split=- trials=0 in=0 out=0 state=running next=3 held=[] numbers={N:0,M:0} strings={S1:,C:,A:,B:}\nstep 28: n=0 notes=0 split=- trials=0 in=0 out=0 state=running next=3 held=[] numbers={N:0,M:0} strings={S1:,C:,A:,B:}\nstep 29: n=0 notes=0 split=- trials=0 in=0 out=0 state=running next=3 held=[] numbers={N:0,M:0} strings={S1:,C:,A:,B:}\nstep 30: n=0 notes=0 split=- trials=0 in=0 out=0 state=running next=3 held=[] numbers={N:0,M:0} strings={S1:,C:,A:,B:}\nstep 31: n=0 notes=0 split=- trials=0 in=0 out=0 state=running next=3 held=[] numbers={N:0,M:0} strings={S1:,C:,A:,B:}\nstep 32: n=0 notes=0 split=- trials=0 in=0 out=0 state=running next=3 held=[] numbers={N:0,M:0} strings={S1:,C:,A:,B:}\nstep 33: n=0 notes=0 split=- trials=0 in=0 out=0 state=running next=3 held=[] numbers={N:0,M:0} strings={S1:,C:,A:,B:}\nstep 34: n=0 notes=0 split=- trials=0 in=0 out=0 state=running next=3 held=[] numbers={N:0,M:0} strings={S1:,C:,A:,B:}\nstep 35: n=0 notes=0 split=- trials=0 in=0 out=0 state=running next=3 held=[] numbers={N:0,M:0} strings={S1:,C:,A:,B:}\nstep 36: n=0 notes=0 split=- trials=0 in=0 out=0 state=running next=3 held=[] numbers={N:0,M:0} strings={S1:,C:,A:,B:}\nstep 37: n=0 notes=0 split=- trials=0 in=0 out=0 state=running next=3 held=[] numbers={N:0,M:0} strings={S1:,C:,A:,B:}\nstep 38: n=0 notes=0 split=- trials=0 in=0 out=0 state=running next=3 held=[] numbers={N:0,M:0} strings={S1:,C:,A:,B:}\nstep 39: n=0 notes=0 split=- trials=0 in=0 out=0 state=running next=3 held=[] numbers={N:0,M:0} strings={S1:,C:,A:,B:}\nstep 40: n=0 notes=0 split=- trials=0 in=0 out=0 state=running next=3 held=[] numbers={N:0,M:0} strings={S1:,C:,A:,B:}\nstep 41: n=0 notes=0 split=- trials=0 in=0 out=0 state=running next=3 held=[] numbers={N:0,M:0} strings={S1:,C:,A:,B:}\nstep 42: n=0 notes=0 split=- trials=0 in=0 out=0 state=running next=3 held=[] numbers={N:0,M:0} strings={S1:,C:,A:,B:}\nstep 43: n=0 notes=0 split=- trials=0 in=0 out=0 state=running next=3 held=[] numbers={N:0,M:0} strings={S1:,C:,A:,B:}\nstep 44: n=0 notes=0 split=- trials=0 in=0 out=0 state=running next=3 held=[] numbers={N:0,M:0} strings={S1:,C:,A:,B:}\nstep 45: n=0 notes=0 split=- trials=0 in=0 out=0 state=running next=3 held=[] numbers={N:0,M:0} strings={S1:,C:,A:,B:}\nstep 46: n=0 notes=0 split=- trials=0 in=0 out=0 state=running next=3 held=[] numbers={N:0,M:0} strings={S1:,C:,A:,B:}\nstep 47: n=0 notes=0 split=- trials=0 in=0 out=0 state=running next=3 held=[] numbers={N:0,M:0} strings={S1:,C:,A:,B:}\nstep 48: n=0 notes=0 split=- trials=0 in=0 out=0 state=running next=3 held=[] numbers={N:0,M:0} strings={S1:,C:,A:,B:}\nstep 49: n=0 notes=0 split=- trials=0 in=0 out=0 state=running next=3 held=[] numbers={N:0,M:0} strings={S1:,C:,A:,B:}\nstep 50: n=0 notes=0 split=- trials=0 in=0 out=0 state=running next=3 held=[] numbers={N:0,M:0} strings={S1:,C:,A:,B:}\nstep 51: n=0 notes=0 split=- trials=0 in=0 out=0 state=running next=3 held=[] numbers={N:0,M:0} strings={S1:,C:,A:,B:}\nstep 52: n=0 notes=0 split=- trials=0 in=0 out=0 state=running next=3 held=[] numbers={N:0,M:0} strings={S1:,C:,A:,B:}\nstep 53: n=0 notes=0 split=- trials=0 in=0 out=0 state=running next=3 held=[] numbers={N:0,M:0} strings={S1:,C:,A:,B:}\nstep 54: n=0 notes=0 split=- trials=0 in=0 out=0 state=running next=3 held=[] numbers={N:0,M:0} strings={S1:,C:,A:,B:}\nstep 55: n=0 notes=0 split=- trials=0 in=0 out=0 state=running next=3 held=[] numbers={N:0,M:0} strings={S1:,C:,A:,B:}\nstep 56: n=0 notes=0 split=- trials=0 in=0 out=0 state=running next=3 held=[] numbers={N:0,M:0} strings={S1:,C:,A:,B:}\nstep 57: n=0 notes=0 split=- trials=0 in=0 out=0 state=running next=3 held=[] numbers={N:0,M:0} strings={S1:,C:,A:,B:}\nstep 58: n=0 notes=0 split=- trials=0 in=0 out=0 state=running next=3 held=[] numbers={N:0,M:0} strings={S1:,C:,A:,B:}\nstep 59: n=0 notes=0 split=- trials=0 in=0 out=0 state=running next=3 held=[] numbers={N:0,M:0} strings={S1:,C:,A:,B:}\nstep 60: n=0 notes=0 split=- trials=0 in=0 out=0 state=running next=3 held=[] numbers={N:0,M:0} strings={S1:,C:,A:,B:}\n" ≡ true
unfolding agrees
v177 = refl

v178 : agrees "         PROGRAM TEST1\n         NUMBER N,M\n         F=\"A\"\n        1SCAN F$7[(S1),(S1$N),(A),B,\"B \",STRING(M),(A)]=STRING(6,M),LINE\n         $N\nL2      *SCAN S1[ST\nIGNORED 1RING(-7,M)\n        X,(B)]=G$N,\n        1STRING(N),\n         \" B\"\n         EXECUTE R1\n L3      READ(60) TEXTLONG$M\n         TE  X  TLONG=\"A,2\"\n         A=\"B+\",S1$5\n         PRINT G\n         ROUTINE R2\nDONE     ENDROUTINE\nL1       ROUTINE R1\n         G$2=STRING(-2,M),STRING(5,N)\n         READ A$M/X9\n         BACKSCAN LINE$8[(G$N),C,(F),A,S1,(TEXTLONG$3),(S1)]/X9,X9\nX9       ENDROUTINE\n         SCAN B$8[(F),A$N,(G$N),\"2\"]\n         PRINT TEXTLONG$N,STRING(N)\nLOOP     END\n" ",\n1B,\nBB2- ,\nA2001+---, B11, B-,AA,- A2A1B AAB2B ,2A0\n-BB-+2  BA+A\n\n,AA0+A,2B+  \n2\n" "step 1: n=0 notes=0 split=- trials=0 in=0 out=0 state=running next=4 held=[] numbers={N:0,M:0} strings={F:41,S1:,A:,B:,LINE:,G:,TEXTLONG:,C:}\nstep 2: n=0 notes=0 split=- trials=3 in=0 out=0 state=running next=6 held=[] numbers={N:0,M:0} strings={F:41,S1:,A:,B:,LINE:,G:,TEXTLONG:,C:}\nstep 3: n=0 notes=0 split=- trials=1 in=0 out=0 state=running next=11 held=[] numbers={N:0,M:0} strings={F:41,S1:,A:,B:,LINE:,G:,TEXTLONG:,C:}\nstep 4: n=0 notes=0 split=- trials=0 in=0 out=0 state=running next=19 held=[12] numbers={N:0,M:0} strings={F:41,S1:,A:,B:,LINE:,G:,TEXTLONG:,C:}\nstep 5: n=0 notes=0 split=- trials=0 in=0 out=0 state=running next=20 held=[12] numbers={N:0,M:0} strings={F:41,S1:,A:,B:,LINE:,G:20303030303030,TEXTLONG:,C:}\nstep 6: n=0 notes=0 split=- trials=0 in=0 out=0 state=running next=21 held=[12] numbers={N:0,M:0} strings={F:41,S1:,A:,B:,LINE:,G:20303030303030,TEXTLONG:,C:}\nstep 7: n=0 notes=0 split=- trials=5 in=0 out=0 state=running next=22 held=[12] numbers={N:0,M:0} strings={F:,S1:,A:,B:,LINE:,G:,TEXTLONG:,C:}\nstep 8: n=0 notes=0 split=- trials=0 in=0 out=0 state=running next=12 held=[] numbers={N:0,M:0} strings={F:,S1:,A:,B:,LINE:,G:,TEXTLONG:,C:}\nstep 9: n=0 notes=0 split=- trials=0 in=0 out=0 state=running next=13 held=[] numbers={N:0,M:0} strings={F:,S1:,A:,B:,LINE:,G:,TEXTLONG:,C:}\nstep 10: n=0 notes=0 split=- trials=0 in=0 out=0 state=running next=14 held=[] numbers={N:0,M:0} strings={F:,S1:,A:,B:,LINE:,G:,TEXTLONG:412c32,C:}\nstep 11: n=0 notes=0 split=- trials=0 in=0 out=0 state=running next=15 held=[] numbers={N:0,M:0} strings={F:,S1:,A:422b,B:,LINE:,G:,TEXTLONG:412c32,C:}\nstep 12: n=0 notes=0 split=- trials=0 in=0 out=0 state=running next=16 held=[] numbers={N:0,M:0} strings={F:,S1:,A:422b,B:,LINE:,G:,TEXTLONG:412c32,C:}\nstep 13: n=0 notes=0 split=- trials=0 in=0 out=0 state=running next=18 held=[] numbers={N:0,M:0} strings={F:,S1:,A:422b,B:,LINE:,G:,TEXTLONG:412c32,C:}\nstep 14: n=0 notes=0 split=- trials=0 in=0 out=0 state=running next=23 held=[] numbers={N:0,M:0} strings={F:,S1:,A:422b,B:,LINE:,G:,TEXTLONG:412c32,C:}\nstep 15: n=0 notes=0 split=- trials=3 in=0 out=0 state=running next=24 held=[] numbers={N:0,M:0} strings={F:,S1:,A:422b,B:,LINE:,G:,TEXTLONG:412c32,C:}\nstep 16: n=0 notes=0 split=- trials=0 in=0 out=2 state=running next=25 held=[] numbers={N:0,M:0} strings={F:,S1:,A:422b,B:,LINE:,G:,TEXTLONG:412c32,C:}\nstep 17: n=0 notes=0 split=- trials=0 in=0 out=2 state=finished next=25 held=[] numbers={N:0,M:0} strings={F:,S1:,A:422b,B:,LINE:,G:,TEXTLONG:412c32,C:}\n" ≡ true
unfolding agrees
v178 = refl

v179 : agrees "         PROGRAM TEST1\n         NUMBER N,M,I,K9,COUNT\n         ROUTINE R2\nL2       ENDROUTINE                                                     SEQ51230\n         B=B,STRING(I)                                                  SEQ64599\n         IF(I>=-1)/L1\n         ROUTINE R3\n   \nL3       B=\nX9       E NDROUTINE\n         A$6=\",1A\"\n         IF(I<COUNT)/,L1\n         IF(NUMERIC(A))/L1\n         ROUTINE R1\n         READ A/,DONE\n         B=\nLOOP     M=NUMBER(B$5)\nDONE     ENDROUTINE\nL1       END\n" "" "step 1: n=0 notes=0 split=- trials=0 in=0 out=0 state=running next=5 held=[] numbers={N:0,M:0,I:0,K9:0,COUNT:0} strings={B:,A:}\nstep 2: n=0 notes=0 split=- trials=0 in=0 out=0 state=running next=6 held=[] numbers={N:0,M:0,I:0,K9:0,COUNT:0} strings={B:30,A:}\nstep 3: n=0 notes=0 split=- trials=0 in=0 out=0 state=running next=19 held=[] numbers={N:0,M:0,I:0,K9:0,COUNT:0} strings={B:30,A:}\nstep 4: n=0 notes=0 split=- trials=0 in=0 out=0 state=finished next=19 held=[] numbers={N:0,M:0,I:0,K9:0,COUNT:0} strings={B:30,A:}\n" ≡ true
unfolding agrees
v179 = refl

v180 : agrees "         PROG R  AM P\n         NUMBER N,M\n         N=M\n L1     *C=A,  \n        CSTRIN \n        *G  (-8\n        1,M),A,\n        C\",,,B1\n         \"\n         ROUTINE R2\n         A=                                                             SEQ09700\n         READ S1                                                        SEQ43376\nLOOP     END ROUTINE\n         GOTO L1\n        *SCAN B[( S1),(S1$0),\"A\", \n          (C$N),S TRING(N,N)]/L2\nL2       LINE$5=\"2,BB2\", STRIN G(N),\"A\"\nDONE     RO  UTINE R1\nX9       TEXTLONG$4=S1\n         ENDROUTINE\nL3       IF(NUM  BER(  LINE  )<=2)/L2\n         IF(M<NUMBER(A))/L2\n         END\n" "\nA2+ 1A A0 A0\n1A+121\n-" "step 1: n=0 notes=0 split=- trials=0 in=0 out=0 state=running next=4 held=[] numbers={N:0,M:0} strings={C:,A:,S1:,B:,LINE:,TEXTLONG:}\nstep 2: n=0 notes=0 split=- trials=0 in=0 out=0 state=running next=10 held=[] numbers={N:0,M:0} strings={C:20202020202020302c2c2c4231,A:,S1:,B:,LINE:,TEXTLONG:}\nstep 3: n=0 notes=0 split=- trials=0 in=0 out=0 state=running next=14 held=[] numbers={N:0,M:0} strings={C:20202020202020302c2c2c4231,A:,S1:,B:,LINE:,TEXTLONG:}\nstep 4: n=0 notes=0 split=- trials=0 in=0 out=0 state=running next=4 held=[] numbers={N:0,M:0} strings={C:20202020202020302c2c2c4231,A:,S1:,B:,LINE:,TEXTLONG:}\nstep 5: n=0 notes=0 split=- trials=0 in=0 out=0 state=running next=10 held=[] numbers={N:0,M:0} strings={C:20202020202020302c2c2c4231,A:,S1:,B:,LINE:,TEXTLONG:}\nstep 6: n=0 notes=0 split=- trials=0 in=0 out=0 state=running next=14 held=[] numbers={N:0,M:0} strings={C:20202020202020302c2c2c4231,A:,S1:,B:,LINE:,TEXTLONG:}\nstep 7: n=0 notes=0 split=- trials=0 in=0 out=0 state=running next=4 held=[] numbers={N:0,M:0} strings={C:20202020202020302c2c2c4231,A:,S1:,B:,LINE:,TEXTLONG:}\nstep 8: n=0 notes=0 split=- trials=0 in=0 out=0 state=running next=10 held=[] numbers={N:0,M:0} strings={C:20202020202020302c2c2c4231,A:,S1:,B:,LINE:,TEXTLONG:}\nstep 9: n=0 notes=0 split=- trials=0 in=0 out=0 state=running next=14 held=[] numbers={N:0,M:0} strings={C:20202020202020302c2c2c4231,A:,S1:,B:,LINE:,TEXTLONG:}\nstep 10: n=0 notes=0 split=- trials=0 in=0 out=0 state=running next=4 held=[] numbers={N:0,M:0} strings={C:20202020202020302c2c2c4231,A:,S1:,B:,LINE:,TEXTLONG:}\nstep 11: n=0 notes=0 split=- trials=0 in=0 out=0 state=running next=10 held=[] numbers={N:0,M:0} strings={C:20202020202020302c2c2c4231,A:,S1:,B:,LINE:,TEXTLONG:}\nstep 12: n=0 notes=0 split=- trials=0 in=0 out=0 state=running next=14 held=[] numbers={N:0,M:0} strings={C:20202020202020302c2c2c4231,A:,S1:,B:,LINE:,TEXTLONG:}\nstep 13: n=0 notes=0 split=- trials=0 in=0 out=0 state=running next=4 held=[] numbers={N:0,M:0} strings={C:20202020202020302c2c2c4231,A:,S1:,B:,LINE:,TEXTLONG:}\nstep 14: n=0 notes=0 split=- trials=0 in=0 out=0 state=running next=10 held=[] numbers={N:0,M:0} strings={C:20202020202020302c2c2c4231,A:,S1:,B:,LINE:,TEXTLONG:}\nstep 15: n=0 notes=0 split=- trials=0 in=0 out=0 state=running next=14 held=[] numbers={N:0,M:0} strings={C:20202020202020302c2c2c4231,A:,S1:,B:,LINE:,TEXTLONG:}\nstep 16: n=0 notes=0 split=- trials=0 in=0 out=0 state=running next=4 held=[] numbers={N:0,M:0} strings={C:20202020202020302c2c2c4231,A:,S1:,B:,LINE:,TEXTLONG:}\nstep 17: n=0 notes=0 split=- trials=0 in=0 out=0 state=running next=10 held=[] numbers={N:0,M:0} strings={C:20202020202020302c2c2c4231,A:,S1:,B:,LINE:,TEXTLONG:}\nstep 18: n=0 notes=0 split=- trials=0 in=0 out=0 state=running next=14 held=[] numbers={N:0,M:0} strings={C:20202020202020302c2c2c4231,A:,S1:,B:,LINE:,TEXTLONG:}\nstep 19: n=0 notes=0 split=- trials=0 in=0 out=0 state=running next=4 held=[] numbers={N:0,M:0} strings={C:20202020202020302c2c2c4231,A:,S1:,B:,LINE:,TEXTLONG:}\nstep 20: n=0 notes=0 split=- trials=0 in=0 out=0 state=running next=10 held=[] numbers={N:0,M:0} strings={C:20202020202020302c2c2c4231,A:,S1:,B:,LINE:,TEXTLONG:}\nstep 21: n=0 notes=0 split=- trials=0 in=0 out=0 state=running next=14 held=[] numbers={N:0,M:0} strings={C:20202020202020302c2c2c4231,A:,S1:,B:,LINE:,TEXTLONG:}\nstep 22: n=0 notes=0 split=- trials=0 in=0 out=0 state=running next=4 held=[] numbers={N:0,M:0} strings={C:20202020202020302c2c2c4231,A:,S1:,B:,LINE:,TEXTLONG:}\nstep 23: n=0 notes=0 split=- trials=0 in=0 out=0 state=running next=10 held=[] numbers={N:0,M:0} strings={C:20202020202020302c2c2c4231,A:,S1:,B:,LINE:,TEXTLONG:}\nstep 24: n=0 notes=0 split=- trials=0 in=0 out=0 state=running next=14 held=[] numbers={N:0,M:0} strings={C:20202020202020302c2c2c4231,A:,S1:,B:,LINE:,TEXTLONG:}\nstep 25: n=0 notes=0 split=- trials=0 in=0 out=0 state=running next=4 held=[] numbers={N:0,M:0} strings={C:20202020202020302c2c2c4231,A:,S1:,B:,LINE:,TEXTLONG:}\nstep 26: n=0 notes=0 split=- trials=0 in=0 out=0 state=running next=10 held=[] numbers={N:0,M:0} strings={C:20202020202020302c2c2c4231,A:,S1:,B:,LINE:,TEXTLONG:}\nstep 27: n=0 notes=0 split=- trials=0 in=0 out=0 state=running next=14 held=[] numbers={N:0,M:0} strings={C:20202020202020302c2c2c4231,A:,S1:,B:,LINE:,TEXTLONG:}\nstep 28: n=0 notes=0 split=- trials=0 in=0 out=0 state=running next=4 held=[] numbers={N:0,M:0} strings={C:20202020202020302c2c2c4231,A:,S1:,B:,LINE:,TEXTLONG:}\nstep 29: n=0 notes=0 split=- trials=0 in=0 out=0 state=running next=10 held=[] numbers={N:0,M:0} strings={C:20202020202020302c2c2c4231,A:,S1:,B:,LINE:,TEXTLONG:}\nstep 30: n=0 notes=0 split=- trials=0 in=0 out=0 state=running next=14 held=[] numbers={N:0,M:0} strings={C:20202020202020302c2c2c4231,A:,S1:,B:,LINE:,TEXTLONG:}\nstep 31: n=0 notes=0 split=- trials=0 in=0 out=0 state=running next=4 held=[] numbers={N:0,M:0} strings={C:20202020202020302c2c2c4231,A:,S1:,B:,LINE:,TEXTLONG:}\nstep 32: n=0 notes=0 split=- trials=0 in=0 out=0 state=running next=10 held=[] numbers={N:0,M:0} strings={C:20202020202020302c2c2c4231,A:,S1:,B:,LINE:,TEXTLONG:}\nstep 33: n=0 notes=0 split=- trials=0 in=0 out=0 state=running next=14 held=[] numbers={N:0,M:0} strings={C:20202020202020302c2c2c4231,A:,S1:,B:,LINE:,TEXTLONG:}\nstep 34: n=0 notes=0 split=- trials=0 in=0 out=0 state=running next=4 held=[] numbers={N:0,M:0} strings={C:20202020202020302c2c2c4231,A:,S1:,B:,LINE:,TEXTLONG:}\nstep 35: n=0 notes=0 split=- trials=0 in=0 out=0 state=running next=10 held=[] numbers={N:0,M:0} strings={C:20202020202020302c2c2c4231,A:,S1:,B:,LINE:,TEXTLONG:}\nstep 36: n=0 notes=0 split=- trials=0 in=0 out=0 state=running next=14 held=[] numbers={N:0,M:0} strings={C:20202020202020302c2c2c4231,A:,S1:,B:,LINE:,TEXTLONG:}\nstep 37: n=0 notes=0 split=- trials=0 in=0 out=0 state=running next=4 held=[] numbers={N:0,M:0} strings={C:20202020202020302c2c2c4231,A:,S1:,B:,LINE:,TEXTLONG:}\nstep 38: n=0 notes=0 split=- trials=0 in=0 out=0 state=running next=10 held=[] numbers={N:0,M:0} strings={C:20202020202020302c2c2c4231,A:,S1:,B:,LINE:,TEXTLONG:}\nstep 39: n=0 notes=0 split=- trials=0 in=0 out=0 state=running next=14 held=[] numbers={N:0,M:0} strings={C:20202020202020302c2c2c4231,A:,S1:,B:,LINE:,TEXTLONG:}\nstep 40: n=0 notes=0 split=- trials=0 in=0 out=0 state=running next=4 held=[] numbers={N:0,M:0} strings={C:20202020202020302c2c2c4231,A:,S1:,B:,LINE:,TEXTLONG:}\nstep 41: n=0 notes=0 split=- trials=0 in=0 out=0 state=running next=10 held=[] numbers={N:0,M:0} strings={C:20202020202020302c2c2c4231,A:,S1:,B:,LINE:,TEXTLONG:}\nstep 42: n=0 notes=0 split=- trials=0 in=0 out=0 state=running next=14 held=[] numbers={N:0,M:0} strings={C:20202020202020302c2c2c4231,A:,S1:,B:,LINE:,TEXTLONG:}\nstep 43: n=0 notes=0 split=- trials=0 in=0 out=0 state=running next=4 held=[] numbers={N:0,M:0} strings={C:20202020202020302c2c2c4231,A:,S1:,B:,LINE:,TEXTLONG:}\nstep 44: n=0 notes=0 split=- trials=0 in=0 out=0 state=running next=10 held=[] numbers={N:0,M:0} strings={C:20202020202020302c2c2c4231,A:,S1:,B:,LINE:,TEXTLONG:}\nstep 45: n=0 notes=0 split=- trials=0 in=0 out=0 state=running next=14 held=[] numbers={N:0,M:0} strings={C:20202020202020302c2c2c4231,A:,S1:,B:,LINE:,TEXTLONG:}\nstep 46: n=0 notes=0 split=- trials=0 in=0 out=0 state=running next=4 held=[] numbers={N:0,M:0} strings={C:20202020202020302c2c2c4231,A:,S1:,B:,LINE:,TEXTLONG:}\nstep 47: n=0 notes=0 split=- trials=0 in=0 out=0 state=running next=10 held=[] numbers={N:0,M:0} strings={C:20202020202020302c2c2c4231,A:,S1:,B:,LINE:,TEXTLONG:}\nstep 48: n=0 notes=0 split=- trials=0 in=0 out=0 state=running next=14 held=[] numbers={N:0,M:0} strings={C:20202020202020302c2c2c4231,A:,S1:,B:,LINE:,TEXTLONG:}\nstep 49: n=0 notes=0 split=- trials=0 in=0 out=0 state=running next=4 held=[] numbers={N:0,M:0} strings={C:20202020202020302c2c2c4231,A:,S1:,B:,LINE:,TEXTLONG:}\nstep 50: n=0 notes=0 split=- trials=0 in=0 out=0 state=running next=10 held=[] numbers={N:0,M:0} strings={C:20202020202020302c2c2c4231,A:,S1:,B:,LINE:,TEXTLONG:}\nstep 51: n=0 notes=0 split=- trials=0 in=0 out=0 state=running next=14 held=[] numbers={N:0,M:0} strings={C:20202020202020302c2c2c4231,A:,S1:,B:,LINE:,TEXTLONG:}\nstep 52: n=0 notes=0 split=- trials=0 in=0 out=0 state=running next=4 held=[] numbers={N:0,M:0} strings={C:20202020202020302c2c2c4231,A:,S1:,B:,LINE:,TEXTLONG:}\nstep 53: n=0 notes=0 split=- trials=0 in=0 out=0 state=running next=10 held=[] numbers={N:0,M:0} strings={C:20202020202020302c2c2c4231,A:,S1:,B:,LINE:,TEXTLONG:}\nstep 54: n=0 notes=0 split=- trials=0 in=0 out=0 state=running next=14 held=[] numbers={N:0,M:0} strings={C:20202020202020302c2c2c4231,A:,S1:,B:,LINE:,TEXTLONG:}\nstep 55: n=0 notes=0 split=- trials=0 in=0 out=0 state=running next=4 held=[] numbers={N:0,M:0} strings={C:20202020202020302c2c2c4231,A:,S1:,B:,LINE:,TEXTLONG:}\nstep 56: n=0 notes=0 split=- trials=0 in=0 out=0 state=running next=10 held=[] numbers={N:0,M:0} strings={C:20202020202020302c2c2c4231,A:,S1:,B:,LINE:,TEXTLONG:}\nstep 57: n=0 notes=0 split=- trials=0 in=0 out=0 state=running next=14 held=[] numbers={N:0,M:0} strings={C:20202020202020302c2c2c4231,A:,S1:,B:,LINE:,TEXTLONG:}\nstep 58: n=0 notes=0 split=- trials=0 in=0 out=0 state=running next=4 held=[] numbers={N:0,M:0} strings={C:20202020202020302c2c2c4231,A:,S1:,B:,LINE:,TEXTLONG:}\nstep 59: n=0 notes=0 split=- trials=0 in=0 out=0 state=running next=10 held=[] numbers={N:0,M:0} strings={C:20202020202020302c2c2c4231,A:,S1:,B:,LINE:,TEXTLONG:}\nstep 60: n=0 notes=0 split=- trials=0 in=0 out=0 state=running next=14 held=[] numbers={N:0,M:0} strings={C:20202020202020302c2c2c4231,A:,S1:,B:,LINE:,TEXTLONG:}\n" ≡ true
unfolding agrees
v180 = refl

v181 : agrees "         PROGRAM P\n         NUMBE  R N,R  EAD\n         REA D(60)   TEXTLO  NG /L1\nL3       BACKSCAN S1$1[]=\" \",\"3-\",\"2\",A$READ/L1\n   \nDONE     PRIN  T(61) \"A\"\n         WRITE TEXTLONG\nX9       W RIT  E   \"+\"\n         G$4=\"2\"                                                        SEQ04215\n* COMMENT 0\nL1       READ S1/,LOOP\n         IF(-4=-2)/L3,X9\n         PRINT(61) \n         IF(LENGTH(S1)<=NUMBER(NUMBER))/DONE,DONE\n LOOP    SCAN B[(LINE),(G$1),F,(S1),(G),\"1\",B$3]=F,G,\"B \",STRING(N,N)\n         N=0/0\nL2       GOTO DONE\n         END                                                            SEQ45879\n" "-21A ,\n" "step 1: n=0 notes=0 split=- trials=0 in=7 out=0 state=running next=11 held=[] numbers={N:0,READ:0} strings={TEXTLONG:2d323141202c,S1:,A:,G:,NUMBER:,B:,LINE:,F:}\nstep 2: n=0 notes=0 split=- trials=0 in=7 out=0 state=running next=15 held=[] numbers={N:0,READ:0} strings={TEXTLONG:2d323141202c,S1:,A:,G:,NUMBER:,B:,LINE:,F:}\nstep 3: n=0 notes=0 split=- trials=1 in=7 out=0 state=running next=16 held=[] numbers={N:0,READ:0} strings={TEXTLONG:2d323141202c,S1:,A:,G:,NUMBER:,B:,LINE:,F:}\nstep 4: n=18 notes=0 split=- trials=0 in=7 out=0 state=stopped next=16 held=[] numbers={N:0,READ:0} strings={TEXTLONG:2d323141202c,S1:,A:,G:,NUMBER:,B:,LINE:,F:}\n" ≡ true
unfolding agrees
v181 = refl

v182 : agrees "         PROGRAM LO TS                                                  SEQ54296\n START   NUMBER READ,M,I\nL3       GO TO L3\n         ROUTINE R3\n         READ=1679-(LENGTH(C))\nX9       ENDROUTINE\n         BACKSCAN TEXTLONG[(B$3),\")(\",(C),(S1$0),\",\"]/L3,L3\n         TEXTLONG=B\n         ROUTINE R1\n         SCAN B[(NUMBER),(S1$ 1),(NUM BER$3)]=  TE  XT LONG\n         BACKSCAN NUMBER$I[]\nDONE     E  NDROU  TI  NE\nLOOP     SCAN B$0[(TEXTLONG$0),B$0,LINE$0,C,(NUMBER)]=LINE/L3\n                                                                        SEQ\n         B ACKSC AN NU MBER[\" BBA2A,,A,  \",(LINE),STRING(2 ,I ),(C)]/,L2\n         IF(+1>=READ)/,L3\n         ROUTINE R2                                                     SEQ61510\n   \n L1      PRINT B$5,STRING(READ)\n         ENDROUTINE\n L2      B=\",B2\",LINE                                                   SEQ60582\n         READ=I*I/0-M\n         RE A  D S1 /,LOO  P                                            SEQ72262\n         BACKSCAN LINE[]\n         IF(LENGTH(NU  MBER)=I)/  ,L2\n         END                                                            SEQ54457\n" " 202AA\n1-BA-B\nAAAAAAAAAAAAAAAAAAAAAAAAAAAAAAAAAAAAAAAAAAAAAAAAAAAAAAAAAAAAAAAAAAAAAAAAAAAAAAAAAAAAAAAAAAAAAAAAAAAAAAAAAAAAAAAAAAAAAAAAAAAAAAAAAAAAAAAAAAAAAAAAAAAAAAAAAAAAAAAAAAAAAAAAAAAAAAAAAAAAAAAAAAAAAAAAAAAAAAAAAAAAAAAAAAAAAAAAAAAAAAAAAAAAAAAAAAAAAAAAAAAAAAAAAAAAAAAAAAAAAAAAAAAAAAAAAAAAAAAAAAAAAAAAAAAAAAAAAAAAAAAAAAAAAAAAAAAAAAAAAAAAAAAAAAAAAAAAAAAAAAAAAAAAAAAAAAAAAAAAAAAAAAAAAAAAAAAAAAAAAAAAAAAAAAAAAAAAAAAAAAAAAAAAAAAAAAAAAAAAAAAAAAAAAAAAAAAAAAAAAAAAAAAAAAAAAAAAAAAAAAAAAAAAAAAAAAAAAAAAAAAAAAAAAAAAAAAAAAAAAAAAAAAAAAAAAAAAAAAAAAAAAAAAAAAAAAAAAAAAAAAAAAAAAAAAAAAAAAAAAAAAAAAAAAAAAAAAAAAAAAAAAAAAAAAAAAAAAAAAAAAAAAAAAAAAAAAAAAAAAAAAAAAAAAAAAAAAAAAAAAAAAAAAAAAAAAAAAAAAAAAAAAAAAAAAAAAAAAAAAAAAAAAAAAAAAAAAAAAAAAAAAAAAAAAAAAAAAAAAAAAAAAAAAAAAAAAAAAAAAAAAAAAAAAAAAAAAAAAAAAAAAAAAAAAAAAAAAAAAAAAAAAAAAAAAAAAAAAAAAAAAAAAAAAAAAAAAAAAAAAAAAAAAAAAAAAAAAAAAAAAAAAAAAAAAAAAAAAAAAAAAAAAAAAAAAAAAAAAAAAAAAAAAAAAAAAAAAAAAAAAAAAAAAAAAAAAAAAAAAAAAAAAAAAAAAAAAAAAAAAAAAAAAAAAAAAAAAAAAAAAAAAAAAAAAAAAAAAAAAAAAAAAAAAAAAAAAAAAAAAAA\n" "step 1: n=0 notes=0 split=- trials=0 in=0 out=0 state=running next=3 held=[] numbers={READ:0,M:0,I:0} strings={C:,TEXTLONG:,B:,S1:,NUMBER:,LINE:}\nstep 2: n=0 notes=0 split=- trials=0 in=0 out=0 state=running next=3 held=[] numbers={READ:0,M:0,I:0} strings={C:,TEXTLONG:,B:,S1:,NUMBER:,LINE:}\nstep 3: n=0 notes=0 split=- trials=0 in=0 out=0 state=running next=3 held=[] numbers={READ:0,M:0,I:0} strings={C:,TEXTLONG:,B:,S1:,NUMBER:,LINE:}\nstep 4: n=0 notes=0 split=- trials=0 in=0 out=0 state=running next=3 held=[] numbers={READ:0,M:0,I:0} strings={C:,TEXTLONG:,B:,S1:,NUMBER:,LINE:}\nstep 5: n=0 notes=0 split=- trials=0 in=0 out=0 state=running next=3 held=[] numbers={READ:0,M:0,I:0} strings={C:,TEXTLONG:,B:,S1:,NUMBER:,LINE:}\nstep 6: n=0 notes=0 split=- trials=0 in=0 out=0 state=running next=3 held=[] numbers={READ:0,M:0,I:0} strings={C:,TEXTLONG:,B:,S1:,NUMBER:,LINE:}\nstep 7: n=0 notes=0 split=- trials=0 in=0 out=0 state=running next=3 held=[] numbers={READ:0,M:0,I:0} strings={C:,TEXTLONG:,B:,S1:,NUMBER:,LINE:}\nstep 8: n=0 notes=0 split=- trials=0 in=0 out=0 state=running next=3 held=[] numbers={READ:0,M:0,I:0} strings={C:,TEXTLONG:,B:,S1:,NUMBER:,LINE:}\nstep 9: n=0 notes=0 split=- trials=0 in=0 out=0 state=running next=3 held=[] numbers={READ:0,M:0,I:0} strings={C:,TEXTLONG:,B:,S1:,NUMBER:,LINE:}\nstep 10: n=0 notes=0 split=- trials=0 in=0 out=0 state=running next=3 held=[] numbers={READ:0,M:0,I:0} strings={C:,TEXTLONG:,B:,S1:,NUMBER:,LINE:}\nstep 11: n=0 notes=0 split=- trials=0 in=0 out=0 state=running next=3 held=[] numbers={READ:0,M:0,I:0} strings={C:,TEXTLONG:,B:,S1:,NUMBER:,LINE:}\nstep 12: n=0 notes=0 split=- trials=0 in=0 out=0 state=running next=3 held=[] numbers={READ:0,M:0,I:0} strings={C:,TEXTLONG:,B:,S1:,NUMBER:,LINE:}\nstep 13: n=0 notes=0 split=- trials=0 in=0 out=0 state=running next=3 held=[] numbers={READ:0,M:0,I:0} strings={C:,TEXTLONG:,B:,S1:,NUMBER:,LINE:}\nstep 14: n=0 notes=0 split=- trials=0 in=0 out=0 state=running next=3 held=[] numbers={READ:0,M:0,I:0} strings={C:,TEXTLONG:,B:,S1:,NUMBER:,LINE:}\nstep 15: n=0 notes=0 split=- trials=0 in=0 out=0 state=running next=3 held=[] numbers={READ:0,M:0,I:0} strings={C:,TEXTLONG:,B:,S1:,NUMBER:,LINE:}\nstep 16: n=0 notes=0 split=- trials=0 in=0 out=0 state=running next=3 held=[] numbers={READ:0,M:0,I:0} strings={C:,TEXTLONG:,B:,S1:,NUMBER:,LINE:}\nstep 17: n=0 notes=0 split=- trials=0 in=0 out=0 state=running next=3 held=[] numbers={READ:0,M:0,I:0} strings={C:,TEXTLONG:,B:,S1:,NUMBER:,LINE:}\nstep 18: n=0 notes=0 split=- trials=0 in=0 out=0 state=running next=3 held=[] numbers={READ:0,M:0,I:0} strings={C:,TEXTLONG:,B:,S1:,NUMBER:,LINE:}\nstep 19: n=0 notes=0 split=- trials=0 in=0 out=0 state=running next=3 held=[] numbers={READ:0,M:0,I:0} strings={C:,TEXTLONG:,B:,S1:,NUMBER:,LINE:}\nstep 20: n=0 notes=0 split=- trials=0 in=0 out=0 state=running next=3 held=[] numbers={READ:0,M:0,I:0} strings={C:,TEXTLONG:,B:,S1:,NUMBER:,LINE:}\nstep 21: n=0 notes=0 split=- trials=0 in=0 out=0 state=running next=3 held=[] numbers={READ:0,M:0,I:0} strings={C:,TEXTLONG:,B:,S1:,NUMBER:,LINE:}\nstep 22: n=0 notes=0 split=- trials=0 in=0 out=0 state=running next=3 held=[] numbers={READ:0,M:0,I:0} strings={C:,TEXTLONG:,B:,S1:,NUMBER:,LINE:}\nstep 23: n=0 notes=0 split=- trials=0 in=0 out=0 state=running next=3 held=[] numbers={READ:0,M:0,I:0} strings={C:,TEXTLONG:,B:,S1:,NUMBER:,LINE:}\nstep 24: n=0 notes=0 split=- trials=0 in=0 out=0 state=running next=3 held=[] numbers={READ:0,M:0,I:0} strings={C:,TEXTLONG:,B:,S1:,NUMBER:,LINE:}\nstep 25: n=0 notes=0 split=- trials=0 in=0 out=0 state=running next=3 held=[] numbers={READ:0,M:0,I:0} strings={C:,TEXTLONG:,B:,S1:,NUMBER:,LINE:}\nstep 26: n=0 notes=0 split=- trials=0 in=0 out=0 state=running next=3 held=[] numbers={READ:0,M:0,I:0} strings={C:,TEXTLONG:,B:,S1:,NUMBER:,LINE:}\nstep 27: n=0 notes=0 split=- trials=0 in=0 out=0 state=running next=3 held=[] numbers={READ:0,M:0,I:0} strings={C:,TEXTLONG:,B:,S1:,NUMBER:,LINE:}\nstep 28: n=0 notes=0 split=- trials=0 in=0 out=0 state=running next=3 held=[] numbers={READ:0,M:0,I:0} strings={C:,TEXTLONG:,B:,S1:,NUMBER:,LINE:}\nstep 29: n=0 notes=0 split=- trials=0 in=0 out=0 state=running next=3 held=[] numbers={READ:0,M:0,I:0} strings={C:,TEXTLONG:,B:,S1:,NUMBER:,LINE:}\nstep 30: n=0 notes=0 split=- trials=0 in=0 out=0 state=running next=3 held=[] numbers={READ:0,M:0,I:0} strings={C:,TEXTLONG:,B:,S1:,NUMBER:,LINE:}\nstep 31: n=0 notes=0 split=- trials=0 in=0 out=0 state=running next=3 held=[] numbers={READ:0,M:0,I:0} strings={C:,TEXTLONG:,B:,S1:,NUMBER:,LINE:}\nstep 32: n=0 notes=0 split=- trials=0 in=0 out=0 state=running next=3 held=[] numbers={READ:0,M:0,I:0} strings={C:,TEXTLONG:,B:,S1:,NUMBER:,LINE:}\nstep 33: n=0 notes=0 split=- trials=0 in=0 out=0 state=running next=3 held=[] numbers={READ:0,M:0,I:0} strings={C:,TEXTLONG:,B:,S1:,NUMBER:,LINE:}\nstep 34: n=0 notes=0 split=- trials=0 in=0 out=0 state=running next=3 held=[] numbers={READ:0,M:0,I:0} strings={C:,TEXTLONG:,B:,S1:,NUMBER:,LINE:}\nstep 35: n=0 notes=0 split=- trials=0 in=0 out=0 state=running next=3 held=[] numbers={READ:0,M:0,I:0} strings={C:,TEXTLONG:,B:,S1:,NUMBER:,LINE:}\nstep 36: n=0 notes=0 split=- trials=0 in=0 out=0 state=running next=3 held=[] numbers={READ:0,M:0,I:0} strings={C:,TEXTLONG:,B:,S1:,NUMBER:,LINE:}\nstep 37: n=0 notes=0 split=- trials=0 in=0 out=0 state=running next=3 held=[] numbers={READ:0,M:0,I:0} strings={C:,TEXTLONG:,B:,S1:,NUMBER:,LINE:}\nstep 38: n=0 notes=0 split=- trials=0 in=0 out=0 state=running next=3 held=[] numbers={READ:0,M:0,I:0} strings={C:,TEXTLONG:,B:,S1:,NUMBER:,LINE:}\nstep 39: n=0 notes=0 split=- trials=0 in=0 out=0 state=running next=3 held=[] numbers={READ:0,M:0,I:0} strings={C:,TEXTLONG:,B:,S1:,NUMBER:,LINE:}\nstep 40: n=0 notes=0 split=- trials=0 in=0 out=0 state=running next=3 held=[] numbers={READ:0,M:0,I:0} strings={C:,TEXTLONG:,B:,S1:,NUMBER:,LINE:}\nstep 41: n=0 notes=0 split=- trials=0 in=0 out=0 state=running next=3 held=[] numbers={READ:0,M:0,I:0} strings={C:,TEXTLONG:,B:,S1:,NUMBER:,LINE:}\nstep 42: n=0 notes=0 split=- trials=0 in=0 out=0 state=running next=3 held=[] numbers={READ:0,M:0,I:0} strings={C:,TEXTLONG:,B:,S1:,NUMBER:,LINE:}\nstep 43: n=0 notes=0 split=- trials=0 in=0 out=0 state=running next=3 held=[] numbers={READ:0,M:0,I:0} strings={C:,TEXTLONG:,B:,S1:,NUMBER:,LINE:}\nstep 44: n=0 notes=0 split=- trials=0 in=0 out=0 state=running next=3 held=[] numbers={READ:0,M:0,I:0} strings={C:,TEXTLONG:,B:,S1:,NUMBER:,LINE:}\nstep 45: n=0 notes=0 split=- trials=0 in=0 out=0 state=running next=3 held=[] numbers={READ:0,M:0,I:0} strings={C:,TEXTLONG:,B:,S1:,NUMBER:,LINE:}\nstep 46: n=0 notes=0 split=- trials=0 in=0 out=0 state=running next=3 held=[] numbers={READ:0,M:0,I:0} strings={C:,TEXTLONG:,B:,S1:,NUMBER:,LINE:}\nstep 47: n=0 notes=0 split=- trials=0 in=0 out=0 state=running next=3 held=[] numbers={READ:0,M:0,I:0} strings={C:,TEXTLONG:,B:,S1:,NUMBER:,LINE:}\nstep 48: n=0 notes=0 split=- trials=0 in=0 out=0 state=running next=3 held=[] numbers={READ:0,M:0,I:0} strings={C:,TEXTLONG:,B:,S1:,NUMBER:,LINE:}\nstep 49: n=0 notes=0 split=- trials=0 in=0 out=0 state=running next=3 held=[] numbers={READ:0,M:0,I:0} strings={C:,TEXTLONG:,B:,S1:,NUMBER:,LINE:}\nstep 50: n=0 notes=0 split=- trials=0 in=0 out=0 state=running next=3 held=[] numbers={READ:0,M:0,I:0} strings={C:,TEXTLONG:,B:,S1:,NUMBER:,LINE:}\nstep 51: n=0 notes=0 split=- trials=0 in=0 out=0 state=running next=3 held=[] numbers={READ:0,M:0,I:0} strings={C:,TEXTLONG:,B:,S1:,NUMBER:,LINE:}\nstep 52: n=0 notes=0 split=- trials=0 in=0 out=0 state=running next=3 held=[] numbers={READ:0,M:0,I:0} strings={C:,TEXTLONG:,B:,S1:,NUMBER:,LINE:}\nstep 53: n=0 notes=0 split=- trials=0 in=0 out=0 state=running next=3 held=[] numbers={READ:0,M:0,I:0} strings={C:,TEXTLONG:,B:,S1:,NUMBER:,LINE:}\nstep 54: n=0 notes=0 split=- trials=0 in=0 out=0 state=running next=3 held=[] numbers={READ:0,M:0,I:0} strings={C:,TEXTLONG:,B:,S1:,NUMBER:,LINE:}\nstep 55: n=0 notes=0 split=- trials=0 in=0 out=0 state=running next=3 held=[] numbers={READ:0,M:0,I:0} strings={C:,TEXTLONG:,B:,S1:,NUMBER:,LINE:}\nstep 56: n=0 notes=0 split=- trials=0 in=0 out=0 state=running next=3 held=[] numbers={READ:0,M:0,I:0} strings={C:,TEXTLONG:,B:,S1:,NUMBER:,LINE:}\nstep 57: n=0 notes=0 split=- trials=0 in=0 out=0 state=running next=3 held=[] numbers={READ:0,M:0,I:0} strings={C:,TEXTLONG:,B:,S1:,NUMBER:,LINE:}\nstep 58: n=0 notes=0 split=- trials=0 in=0 out=0 state=running next=3 held=[] numbers={READ:0,M:0,I:0} strings={C:,TEXTLONG:,B:,S1:,NUMBER:,LINE:}\nstep 59: n=0 notes=0 split=- trials=0 in=0 out=0 state=running next=3 held=[] numbers={READ:0,M:0,I:0} strings={C:,TEXTLONG:,B:,S1:,NUMBER:,LINE:}\nstep 60: n=0 notes=0 split=- trials=0 in=0 out=0 state=running next=3 held=[] numbers={READ:0,M:0,I:0} strings={C:,TEXTLONG:,B:,S1:,NUMBER:,LINE:}\n" ≡ true
unfolding agrees
v182 = refl

v183 : agrees "         PROG  RAM TEST1  \n         NU MBER N,M,END  \nL3       C=\"212B,\"                                                      SEQ97152\nL2       N=2139-(4-10-M)\nLOOP     M=M\nL1       SCAN C$  8[]\n DONE    LINE=\" \"\nX9       END\n" "-+A +2A0BA,BB+0AA--,,0--2A0020+,1A,A00A1\n-B+A,B\n-+B\n,11AAA2 -112\n" "step 1: n=0 notes=0 split=- trials=0 in=0 out=0 state=running next=4 held=[] numbers={N:0,M:0,END:0} strings={C:323132422c,LINE:}\nstep 2: n=0 notes=0 split=- trials=0 in=0 out=0 state=running next=5 held=[] numbers={N:2145,M:0,END:0} strings={C:323132422c,LINE:}\nstep 3: n=0 notes=0 split=- trials=0 in=0 out=0 state=running next=6 held=[] numbers={N:2145,M:0,END:0} strings={C:323132422c,LINE:}\nstep 4: n=0 notes=0 split=0; trials=0 in=0 out=0 state=running next=7 held=[] numbers={N:2145,M:0,END:0} strings={C:323132422c,LINE:}\nstep 5: n=0 notes=0 split=- trials=0 in=0 out=0 state=running next=8 held=[] numbers={N:2145,M:0,END:0} strings={C:323132422c,LINE:20}\nstep 6: n=0 notes=0 split=- trials=0 in=0 out=0 state=finished next=8 held=[] numbers={N:2145,M:0,END:0} strings={C:323132422c,LINE:20}\n" ≡ true
unfolding agrees
v183 = refl

v184 : agrees "         PROGRAM LOT S \n         NUMBER N,M,I\n         ROU TINE R2\nL2       A=\"\"\",\"2\"\nL1       A=B$2\nDONE     ENDROUTINE\n* COMMENT 8\n         R OU TI NE R  1\nX9       ENDROUTINE\n         IF(N=-2)/,L  OO P  \nLOOP     PRINT\nL3       END\n" ",A A2 \n2,0 +1,1,A-A2B2- -0 -20A1-A21A, -,-2A,A+\n+A0\n-A-2 ,A,A2,2A  B1 101A-A2-   1A,,A0012+B\n" "step 1: n=0 notes=0 split=- trials=0 in=0 out=0 state=running next=8 held=[] numbers={N:0,M:0,I:0} strings={A:,B:}\nstep 2: n=0 notes=0 split=- trials=0 in=0 out=0 state=running next=10 held=[] numbers={N:0,M:0,I:0} strings={A:,B:}\nstep 3: n=0 notes=0 split=- trials=0 in=0 out=0 state=running next=11 held=[] numbers={N:0,M:0,I:0} strings={A:,B:}\nstep 4: n=0 notes=0 split=- trials=0 in=0 out=0 state=running next=12 held=[] numbers={N:0,M:0,I:0} strings={A:,B:}\nstep 5: n=0 notes=0 split=- trials=0 in=0 out=0 state=finished next=12 held=[] numbers={N:0,M:0,I:0} strings={A:,B:}\n" ≡ true
unfolding agrees
v184 = refl

v185 : agrees "         PR  OGRAM P\n         NUMBER IF,M\n         IF(NUMERIC(F$5))/L3\nDONE    1SCAN LINE[STRING(1,IF)]=STRING(-4,M),TEXTLONG,STRING(IF)/DONE,XSEQ83189\n         9\n         IF=36  08 *  (+M  +(+5589183)*121/(1))*9565 86+8341605*143\n         PRINT \"2B\",C,TEXTLONG$4,\"2+=\"\nL2       BACKSCAN L INE[(F),(A),  \",\",\"\"\",(B$ 2),\"=\",STRI NG(IF)] =\n         B=STRING(-8,M),A$1\n         IF=+I F                                                        SEQ01833\n X9      ROUTINE R1\n         GOTO L1\n         M=IF\nL1       IF=+ 145*3\n         END  RO UT INE\nL3       EXECUTE R1\n         IF(NULL  (LINE))/X9\n         M=IF-7040569*164\n         READ(60) C$4/X9,LOOP\nLOOP     BAC  KSCA N F[B,LI  NE  $6,(READ)]=\"2\",\"=,\"\n\n         M=(+9)\n         END\n" "B\n++102B02BA-2-B- A 1-01++A+-B-B+-A 0+0A22\n,A,2  \n0A0BA+,A0 A100+1AB02,A,2 -+-AA++,A+BB-2A\n\n1-1B-BAA1+A-\n+\n0AB" "step 1: n=0 notes=0 split=- trials=0 in=0 out=0 state=running next=4 held=[] numbers={IF:0,M:0} strings={F:,LINE:,TEXTLONG:,C:,A:,B:,READ:}\nstep 2: n=0 notes=0 split=- trials=1 in=0 out=0 state=running next=11 held=[] numbers={IF:0,M:0} strings={F:,LINE:,TEXTLONG:,C:,A:,B:,READ:}\nstep 3: n=0 notes=0 split=- trials=0 in=0 out=0 state=running next=16 held=[] numbers={IF:0,M:0} strings={F:,LINE:,TEXTLONG:,C:,A:,B:,READ:}\nstep 4: n=0 notes=0 split=- trials=0 in=0 out=0 state=running next=12 held=[17] numbers={IF:0,M:0} strings={F:,LINE:,TEXTLONG:,C:,A:,B:,READ:}\nstep 5: n=0 notes=0 split=- trials=0 in=0 out=0 state=running next=14 held=[17] numbers={IF:0,M:0} strings={F:,LINE:,TEXTLONG:,C:,A:,B:,READ:}\nstep 6: n=0 notes=0 split=- trials=0 in=0 out=0 state=running next=15 held=[17] numbers={IF:435,M:0} strings={F:,LINE:,TEXTLONG:,C:,A:,B:,READ:}\nstep 7: n=0 notes=0 split=- trials=0 in=0 out=0 state=running next=17 held=[] numbers={IF:435,M:0} strings={F:,LINE:,TEXTLONG:,C:,A:,B:,READ:}\nstep 8: n=0 notes=0 split=- trials=0 in=0 out=0 state=running next=11 held=[] numbers={IF:435,M:0} strings={F:,LINE:,TEXTLONG:,C:,A:,B:,READ:}\nstep 9: n=0 notes=0 split=- trials=0 in=0 out=0 state=running next=16 held=[] numbers={IF:435,M:0} strings={F:,LINE:,TEXTLONG:,C:,A:,B:,READ:}\nstep 10: n=0 notes=0 split=- trials=0 in=0 out=0 state=running next=12 held=[17] numbers={IF:435,M:0} strings={F:,LINE:,TEXTLONG:,C:,A:,B:,READ:}\nstep 11: n=0 notes=0 split=- trials=0 in=0 out=0 state=running next=14 held=[17] numbers={IF:435,M:0} strings={F:,LINE:,TEXTLONG:,C:,A:,B:,READ:}\nstep 12: n=0 notes=0 split=- trials=0 in=0 out=0 state=running next=15 held=[17] numbers={IF:435,M:0} strings={F:,LINE:,TEXTLONG:,C:,A:,B:,READ:}\nstep 13: n=0 notes=0 split=- trials=0 in=0 out=0 state=running next=17 held=[] numbers={IF:435,M:0} strings={F:,LINE:,TEXTLONG:,C:,A:,B:,READ:}\nstep 14: n=0 notes=0 split=- trials=0 in=0 out=0 state=running next=11 held=[] numbers={IF:435,M:0} strings={F:,LINE:,TEXTLONG:,C:,A:,B:,READ:}\nstep 15: n=0 notes=0 split=- trials=0 in=0 out=0 state=running next=16 held=[] numbers={IF:435,M:0} strings={F:,LINE:,TEXTLONG:,C:,A:,B:,READ:}\nstep 16: n=0 notes=0 split=- trials=0 in=0 out=0 state=running next=12 held=[17] numbers={IF:435,M:0} strings={F:,LINE:,TEXTLONG:,C:,A:,B:,READ:}\nstep 17: n=0 notes=0 split=- trials=0 in=0 out=0 state=running next=14 held=[17] numbers={IF:435,M:0} strings={F:,LINE:,TEXTLONG:,C:,A:,B:,READ:}\nstep 18: n=0 notes=0 split=- trials=0 in=0 out=0 state=running next=15 held=[17] numbers={IF:435,M:0} strings={F:,LINE:,TEXTLONG:,C:,A:,B:,READ:}\nstep 19: n=0 notes=0 split=- trials=0 in=0 out=0 state=running next=17 held=[] numbers={IF:435,M:0} strings={F:,LINE:,TEXTLONG:,C:,A:,B:,READ:}\nstep 20: n=0 notes=0 split=- trials=0 in=0 out=0 state=running next=11 held=[] numbers={IF:435,M:0} strings={F:,LINE:,TEXTLONG:,C:,A:,B:,READ:}\nstep 21: n=0 notes=0 split=- trials=0 in=0 out=0 state=running next=16 held=[] numbers={IF:435,M:0} strings={F:,LINE:,TEXTLONG:,C:,A:,B:,READ:}\nstep 22: n=0 notes=0 split=- trials=0 in=0 out=0 state=running next=12 held=[17] numbers={IF:435,M:0} strings={F:,LINE:,TEXTLONG:,C:,A:,B:,READ:}\nstep 23: n=0 notes=0 split=- trials=0 in=0 out=0 state=running next=14 held=[17] numbers={IF:435,M:0} strings={F:,LINE:,TEXTLONG:,C:,A:,B:,READ:}\nstep 24: n=0 notes=0 split=- trials=0 in=0 out=0 state=running next=15 held=[17] numbers={IF:435,M:0} strings={F:,LINE:,TEXTLONG:,C:,A:,B:,READ:}\nstep 25: n=0 notes=0 split=- trials=0 in=0 out=0 state=running next=17 held=[] numbers={IF:435,M:0} strings={F:,LINE:,TEXTLONG:,C:,A:,B:,READ:}\nstep 26: n=0 notes=0 split=- trials=0 in=0 out=0 state=running next=11 held=[] numbers={IF:435,M:0} strings={F:,LINE:,TEXTLONG:,C:,A:,B:,READ:}\nstep 27: n=0 notes=0 split=- trials=0 in=0 out=0 state=running next=16 held=[] numbers={IF:435,M:0} strings={F:,LINE:,TEXTLONG:,C:,A:,B:,READ:}\nstep 28: n=0 notes=0 split=- trials=0 in=0 out=0 state=running next=12 held=[17] numbers={IF:435,M:0} strings={F:,LINE:,TEXTLONG:,C:,A:,B:,READ:}\nstep 29: n=0 notes=0 split=- trials=0 in=0 out=0 state=running next=14 held=[17] numbers={IF:435,M:0} strings={F:,LINE:,TEXTLONG:,C:,A:,B:,READ:}\nstep 30: n=0 notes=0 split=- trials=0 in=0 out=0 state=running next=15 held=[17] numbers={IF:435,M:0} strings={F:,LINE:,TEXTLONG:,C:,A:,B:,READ:}\nstep 31: n=0 notes=0 split=- trials=0 in=0 out=0 state=running next=17 held=[] numbers={IF:435,M:0} strings={F:,LINE:,TEXTLONG:,C:,A:,B:,READ:}\nstep 32: n=0 notes=0 split=- trials=0 in=0 out=0 state=running next=11 held=[] numbers={IF:435,M:0} strings={F:,LINE:,TEXTLONG:,C:,A:,B:,READ:}\nstep 33: n=0 notes=0 split=- trials=0 in=0 out=0 state=running next=16 held=[] numbers={IF:435,M:0} strings={F:,LINE:,TEXTLONG:,C:,A:,B:,READ:}\nstep 34: n=0 notes=0 split=- trials=0 in=0 out=0 state=running next=12 held=[17] numbers={IF:435,M:0} strings={F:,LINE:,TEXTLONG:,C:,A:,B:,READ:}\nstep 35: n=0 notes=0 split=- trials=0 in=0 out=0 state=running next=14 held=[17] numbers={IF:435,M:0} strings={F:,LINE:,TEXTLONG:,C:,A:,B:,READ:}\nstep 36: n=0 notes=0 split=- trials=0 in=0 out=0 state=running next=15 held=[17] numbers={IF:435,M:0} strings={F:,LINE:,TEXTLONG:,C:,A:,B:,READ:}\nstep 37: n=0 notes=0 split=- trials=0 in=0 out=0 state=running next=17 held=[] numbers={IF:435,M:0} strings={F:,LINE:,TEXTLONG:,C:,A:,B:,READ:}\nstep 38: n=0 notes=0 split=- trials=0 in=0 out=0 state=running next=11 held=[] numbers={IF:435,M:0} strings={F:,LINE:,TEXTLONG:,C:,A:,B:,READ:}\nstep 39: n=0 notes=0 split=- trials=0 in=0 out=0 state=running next=16 held=[] numbers={IF:435,M:0} strings={F:,LINE:,TEXTLONG:,C:,A:,B:,READ:}\nstep 40: n=0 notes=0 split=- trials=0 in=0 out=0 state=running next=12 held=[17] numbers={IF:435,M:0} strings={F:,LINE:,TEXTLONG:,C:,A:,B:,READ:}\nstep 41: n=0 notes=0 split=- trials=0 in=0 out=0 state=running next=14 held=[17] numbers={IF:435,M:0} strings={F:,LINE:,TEXTLONG:,C:,A:,B:,READ:}\nstep 42: n=0 notes=0 split=- trials=0 in=0 out=0 state=running next=15 held=[17] numbers={IF:435,M:0} strings={F:,LINE:,TEXTLONG:,C:,A:,B:,READ:}\nstep 43: n=0 notes=0 split=- trials=0 in=0 out=0 state=running next=17 held=[] numbers={IF:435,M:0} strings={F:,LINE:,TEXTLONG:,C:,A:,B:,READ:}\nstep 44: n=0 notes=0 split=- trials=0 in=0 out=0 state=running next=11 held=[] numbers={IF:435,M:0} strings={F:,LINE:,TEXTLONG:,C:,A:,B:,READ:}\nstep 45: n=0 notes=0 split=- trials=0 in=0 out=0 state=running next=16 held=[] numbers={IF:435,M:0} strings={F:,LINE:,TEXTLONG:,C:,A:,B:,READ:}\nstep 46: n=0 notes=0 split=- trials=0 in=0 out=0 state=running next=12 held=[17] numbers={IF:435,M:0} strings={F:,LINE:,TEXTLONG:,C:,A:,B:,READ:}\nstep 47: n=0 notes=0 split=- trials=0 in=0 out=0 state=running next=14 held=[17] numbers={IF:435,M:0} strings={F:,LINE:,TEXTLONG:,C:,A:,B:,READ:}\nstep 48: n=0 notes=0 split=- trials=0 in=0 out=0 state=running next=15 held=[17] numbers={IF:435,M:0} strings={F:,LINE:,TEXTLONG:,C:,A:,B:,READ:}\nstep 49: n=0 notes=0 split=- trials=0 in=0 out=0 state=running next=17 held=[] numbers={IF:435,M:0} strings={F:,LINE:,TEXTLONG:,C:,A:,B:,READ:}\nstep 50: n=0 notes=0 split=- trials=0 in=0 out=0 state=running next=11 held=[] numbers={IF:435,M:0} strings={F:,LINE:,TEXTLONG:,C:,A:,B:,READ:}\nstep 51: n=0 notes=0 split=- trials=0 in=0 out=0 state=running next=16 held=[] numbers={IF:435,M:0} strings={F:,LINE:,TEXTLONG:,C:,A:,B:,READ:}\nstep 52: n=0 notes=0 split=- trials=0 in=0 out=0 state=running next=12 held=[17] numbers={IF:435,M:0} strings={F:,LINE:,TEXTLONG:,C:,A:,B:,READ:}\nstep 53: n=0 notes=0 split=- trials=0 in=0 out=0 state=running next=14 held=[17] numbers={IF:435,M:0} strings={F:,LINE:,TEXTLONG:,C:,A:,B:,READ:}\nstep 54: n=0 notes=0 split=- trials=0 in=0 out=0 state=running next=15 held=[17] numbers={IF:435,M:0} strings={F:,LINE:,TEXTLONG:,C:,A:,B:,READ:}\nstep 55: n=0 notes=0 split=- trials=0 in=0 out=0 state=running next=17 held=[] numbers={IF:435,M:0} strings={F:,LINE:,TEXTLONG:,C:,A:,B:,READ:}\nstep 56: n=0 notes=0 split=- trials=0 in=0 out=0 state=running next=11 held=[] numbers={IF:435,M:0} strings={F:,LINE:,TEXTLONG:,C:,A:,B:,READ:}\nstep 57: n=0 notes=0 split=- trials=0 in=0 out=0 state=running next=16 held=[] numbers={IF:435,M:0} strings={F:,LINE:,TEXTLONG:,C:,A:,B:,READ:}\nstep 58: n=0 notes=0 split=- trials=0 in=0 out=0 state=running next=12 held=[17] numbers={IF:435,M:0} strings={F:,LINE:,TEXTLONG:,C:,A:,B:,READ:}\nstep 59: n=0 notes=0 split=- trials=0 in=0 out=0 state=running next=14 held=[17] numbers={IF:435,M:0} strings={F:,LINE:,TEXTLONG:,C:,A:,B:,READ:}\nstep 60: n=0 notes=0 split=- trials=0 in=0 out=0 state=running next=15 held=[17] numbers={IF:435,M:0} strings={F:,LINE:,TEXTLONG:,C:,A:,B:,READ:}\n" ≡ true
unfolding agrees
v185 = refl

v186 : agrees "         P  ROGRAM TEST1\n         NUMBER N,M,I,K9,COUNT\n L3      A=\nX9       S1=A$N  ,A$6  \n LOOP    C=LINE$5,\",1 \",\" AB2,\",\"1\"                                     SEQ97091\nDONE     B=\nL2       SCAN A[A,S1,(S1),(LINE),(S1)]\n* COMMENT 4\nL1       END  \n" "" "step 1: n=0 notes=0 split=- trials=0 in=0 out=0 state=running next=4 held=[] numbers={N:0,M:0,I:0,K9:0,COUNT:0} strings={A:,S1:,C:,LINE:,B:}\nstep 2: n=0 notes=0 split=- trials=0 in=0 out=0 state=running next=5 held=[] numbers={N:0,M:0,I:0,K9:0,COUNT:0} strings={A:,S1:,C:,LINE:,B:}\nstep 3: n=0 notes=0 split=- trials=0 in=0 out=0 state=running next=6 held=[] numbers={N:0,M:0,I:0,K9:0,COUNT:0} strings={A:,S1:,C:2c3120204142322c31,LINE:,B:}\nstep 4: n=0 notes=0 split=- trials=0 in=0 out=0 state=running next=7 held=[] numbers={N:0,M:0,I:0,K9:0,COUNT:0} strings={A:,S1:,C:2c3120204142322c31,LINE:,B:}\nstep 5: n=0 notes=0 split=0;0,0,0,0,0 trials=2 in=0 out=0 state=running next=9 held=[] numbers={N:0,M:0,I:0,K9:0,COUNT:0} strings={A:,S1:,C:2c3120204142322c31,LINE:,B:}\nstep 6: n=0 notes=0 split=- trials=0 in=0 out=0 state=finished next=9 held=[] numbers={N:0,M:0,I:0,K9:0,COUNT:0} strings={A:,S1:,C:2c3120204142322c31,LINE:,B:}\n" ≡ true
unfolding agrees
v186 = refl

v187 : agrees "        1PROGRAM                                                        SEQ51892\n          TEST1                                                         SEQ38851\n         NUMBER N,M,I,K9,COUNT\n LOOP    A=C                                                            SEQ44220\nX9       A $ N=S  TRIN G(COUNT),\"2\"\nL2       ROUTINE R2\nL1       M=M\n         GO TO L1\n         ENDROUTINE                                                     SEQ80253\n         ROUTINE R1\nL3       C  $0=\"+0\",STRIN G(  K 9),S TRING(K9)\n         ENDROUTINE\nDONE     K9=(3+M*(N-6))- LENGTH(B  )*3-COUNT- N+N \n         END\n" "\n-0 +2-20  BBB11,202A-0 00A2,0B,B+A1+1 A-\n" "step 1: n=0 notes=0 split=- trials=0 in=0 out=0 state=running next=5 held=[] numbers={N:0,M:0,I:0,K9:0,COUNT:0} strings={A:,C:,B:}\nstep 2: n=0 notes=0 split=- trials=0 in=0 out=0 state=running next=6 held=[] numbers={N:0,M:0,I:0,K9:0,COUNT:0} strings={A:3032,C:,B:}\nstep 3: n=0 notes=0 split=- trials=0 in=0 out=0 state=running next=10 held=[] numbers={N:0,M:0,I:0,K9:0,COUNT:0} strings={A:3032,C:,B:}\nstep 4: n=0 notes=0 split=- trials=0 in=0 out=0 state=running next=13 held=[] numbers={N:0,M:0,I:0,K9:0,COUNT:0} strings={A:3032,C:,B:}\nstep 5: n=0 notes=0 split=- trials=0 in=0 out=0 state=running next=14 held=[] numbers={N:0,M:0,I:0,K9:3,COUNT:0} strings={A:3032,C:,B:}\nstep 6: n=0 notes=0 split=- trials=0 in=0 out=0 state=finished next=14 held=[] numbers={N:0,M:0,I:0,K9:3,COUNT:0} strings={A:3032,C:,B:}\n" ≡ true
unfolding agrees
v187 = refl

v188 : agrees "         PROGRAM TEST1\n         NUMBER N,M,I,K9,COUNT\n         BACKSCAN B[\"2\"]/,LOOP\n         ROUTINE R2\nDONE     B  ACK S CAN G$  7[ STRING (  COUNT,M)]  /D ONE,L1\n         EXECUTE R3\n        XN=LENGTH(G)+(-N*8+NUMBER(S1)+LENGTH(F)*00010/((+119153-1)))*COU\n IGNORED NT*93-1-M-2\nL1       COUNT=85+M*M-N+1*3097/1634-N*0*COUNT\n         ENDROU  TINE\n         ROUTINE R3\n         K9=+N\nL2       ENDROUTINE\nLOOP     ROUTINE R1\n         EXECUTE R2\n        XIF(NULL(F)\n         )/X9,X9\n         EXIT\nX9       IF(LENGTH(C)>0)/X9,X9\n         ENDR  OUTINE                                                   SEQ36703\nL3       READ B/L3,LOOP\n* COMMENT 8\n         B$5=\"=\",G,STRING(0,I),\"A\"\n         END\n" ", BB1-,-,AABA2AA,20 0220BA++2A+0AA1A-AA1\n\nA\n0A,A+,-2+1A-BA-,20+0AA,A0-12A-A  0 -AA,-\n\n\n1A0,11-0+ , \n20A-12\n" "step 1: n=0 notes=0 split=- trials=1 in=0 out=0 state=running next=14 held=[] numbers={N:0,M:0,I:0,K9:0,COUNT:0} strings={B:,G:,S1:,F:,C:}\nstep 2: n=0 notes=0 split=- trials=0 in=0 out=0 state=running next=21 held=[] numbers={N:0,M:0,I:0,K9:0,COUNT:0} strings={B:,G:,S1:,F:,C:}\nstep 3: n=0 notes=0 split=- trials=0 in=41 out=0 state=running next=21 held=[] numbers={N:0,M:0,I:0,K9:0,COUNT:0} strings={B:2c204242312d2c2d2c414142413241412c3230203032323042412b2b32412b30414131412d414131,G:,S1:,F:,C:}\nstep 4: n=0 notes=0 split=- trials=0 in=42 out=0 state=running next=21 held=[] numbers={N:0,M:0,I:0,K9:0,COUNT:0} strings={B:,G:,S1:,F:,C:}\nstep 5: n=0 notes=0 split=- trials=0 in=44 out=0 state=running next=21 held=[] numbers={N:0,M:0,I:0,K9:0,COUNT:0} strings={B:41,G:,S1:,F:,C:}\nstep 6: n=0 notes=0 split=- trials=0 in=85 out=0 state=running next=21 held=[] numbers={N:0,M:0,I:0,K9:0,COUNT:0} strings={B:30412c412b2c2d322b31412d42412d2c32302b3041412c41302d3132412d41202030202d41412c2d,G:,S1:,F:,C:}\nstep 7: n=0 notes=0 split=- trials=0 in=86 out=0 state=running next=21 held=[] numbers={N:0,M:0,I:0,K9:0,COUNT:0} strings={B:,G:,S1:,F:,C:}\nstep 8: n=0 notes=0 split=- trials=0 in=87 out=0 state=running next=21 held=[] numbers={N:0,M:0,I:0,K9:0,COUNT:0} strings={B:,G:,S1:,F:,C:}\nstep 9: n=0 notes=0 split=- trials=0 in=100 out=0 state=running next=21 held=[] numbers={N:0,M:0,I:0,K9:0,COUNT:0} strings={B:3141302c31312d302b202c20,G:,S1:,F:,C:}\nstep 10: n=0 notes=0 split=- trials=0 in=107 out=0 state=running next=21 held=[] numbers={N:0,M:0,I:0,K9:0,COUNT:0} strings={B:3230412d3132,G:,S1:,F:,C:}\nstep 11: n=0 notes=0 split=- trials=0 in=107 out=0 state=running next=14 held=[] numbers={N:0,M:0,I:0,K9:0,COUNT:0} strings={B:3230412d3132,G:,S1:,F:,C:}\nstep 12: n=0 notes=0 split=- trials=0 in=107 out=0 state=running next=21 held=[] numbers={N:0,M:0,I:0,K9:0,COUNT:0} strings={B:3230412d3132,G:,S1:,F:,C:}\nstep 13: n=0 notes=0 split=- trials=0 in=107 out=0 state=running next=14 held=[] numbers={N:0,M:0,I:0,K9:0,COUNT:0} strings={B:3230412d3132,G:,S1:,F:,C:}\nstep 14: n=0 notes=0 split=- trials=0 in=107 out=0 state=running next=21 held=[] numbers={N:0,M:0,I:0,K9:0,COUNT:0} strings={B:3230412d3132,G:,S1:,F:,C:}\nstep 15: n=0 notes=0 split=- trials=0 in=107 out=0 state=running next=14 held=[] numbers={N:0,M:0,I:0,K9:0,COUNT:0} strings={B:3230412d3132,G:,S1:,F:,C:}\nstep 16: n=0 notes=0 split=- trials=0 in=107 out=0 state=running next=21 held=[] numbers={N:0,M:0,I:0,K9:0,COUNT:0} strings={B:3230412d3132,G:,S1:,F:,C:}\nstep 17: n=0 notes=0 split=- trials=0 in=107 out=0 state=running next=14 held=[] numbers={N:0,M:0,I:0,K9:0,COUNT:0} strings={B:3230412d3132,G:,S1:,F:,C:}\nstep 18: n=0 notes=0 split=- trials=0 in=107 out=0 state=running next=21 held=[] numbers={N:0,M:0,I:0,K9:0,COUNT:0} strings={B:3230412d3132,G:,S1:,F:,C:}\nstep 19: n=0 notes=0 split=- trials=0 in=107 out=0 state=running next=14 held=[] numbers={N:0,M:0,I:0,K9:0,COUNT:0} strings={B:3230412d3132,G:,S1:,F:,C:}\nstep 20: n=0 notes=0 split=- trials=0 in=107 out=0 state=running next=21 held=[] numbers={N:0,M:0,I:0,K9:0,COUNT:0} strings={B:3230412d3132,G:,S1:,F:,C:}\nstep 21: n=0 notes=0 split=- trials=0 in=107 out=0 state=running next=14 held=[] numbers={N:0,M:0,I:0,K9:0,COUNT:0} strings={B:3230412d3132,G:,S1:,F:,C:}\nstep 22: n=0 notes=0 split=- trials=0 in=107 out=0 state=running next=21 held=[] numbers={N:0,M:0,I:0,K9:0,COUNT:0} strings={B:3230412d3132,G:,S1:,F:,C:}\nstep 23: n=0 notes=0 split=- trials=0 in=107 out=0 state=running next=14 held=[] numbers={N:0,M:0,I:0,K9:0,COUNT:0} strings={B:3230412d3132,G:,S1:,F:,C:}\nstep 24: n=0 notes=0 split=- trials=0 in=107 out=0 state=running next=21 held=[] numbers={N:0,M:0,I:0,K9:0,COUNT:0} strings={B:3230412d3132,G:,S1:,F:,C:}\nstep 25: n=0 notes=0 split=- trials=0 in=107 out=0 state=running next=14 held=[] numbers={N:0,M:0,I:0,K9:0,COUNT:0} strings={B:3230412d3132,G:,S1:,F:,C:}\nstep 26: n=0 notes=0 split=- trials=0 in=107 out=0 state=running next=21 held=[] numbers={N:0,M:0,I:0,K9:0,COUNT:0} strings={B:3230412d3132,G:,S1:,F:,C:}\nstep 27: n=0 notes=0 split=- trials=0 in=107 out=0 state=running next=14 held=[] numbers={N:0,M:0,I:0,K9:0,COUNT:0} strings={B:3230412d3132,G:,S1:,F:,C:}\nstep 28: n=0 notes=0 split=- trials=0 in=107 out=0 state=running next=21 held=[] numbers={N:0,M:0,I:0,K9:0,COUNT:0} strings={B:3230412d3132,G:,S1:,F:,C:}\nstep 29: n=0 notes=0 split=- trials=0 in=107 out=0 state=running next=14 held=[] numbers={N:0,M:0,I:0,K9:0,COUNT:0} strings={B:3230412d3132,G:,S1:,F:,C:}\nstep 30: n=0 notes=0 split=- trials=0 in=107 out=0 state=running next=21 held=[] numbers={N:0,M:0,I:0,K9:0,COUNT:0} strings={B:3230412d3132,G:,S1:,F:,C:}\nstep 31: n=0 notes=0 split=- trials=0 in=107 out=0 state=running next=14 held=[] numbers={N:0,M:0,I:0,K9:0,COUNT:0} strings={B:3230412d3132,G:,S1:,F:,C:}\nstep 32: n=0 notes=0 split=- trials=0 in=107 out=0 state=running next=21 held=[] numbers={N:0,M:0,I:0,K9:0,COUNT:0} strings={B:3230412d3132,G:,S1:,F:,C:}\nstep 33: n=0 notes=0 split=- trials=0 in=107 out=0 state=running next=14 held=[] numbers={N:0,M:0,I:0,K9:0,COUNT:0} strings={B:3230412d3132,G:,S1:,F:,C:}\nstep 34: n=0 notes=0 split=- trials=0 in=107 out=0 state=running next=21 held=[] numbers={N:0,M:0,I:0,K9:0,COUNT:0} strings={B:3230412d3132,G:,S1:,F:,C:}\nstep 35: n=0 notes=0 split=- trials=0 in=107 out=0 state=running next=14 held=[] numbers={N:0,M:0,I:0,K9:0,COUNT:0} strings={B:3230412d3132,G:,S1:,F:,C:}\nstep 36: n=0 notes=0 split=- trials=0 in=107 out=0 state=running next=21 held=[] numbers={N:0,M:0,I:0,K9:0,COUNT:0} strings={B:3230412d3132,G:,S1:,F:,C:}\nstep 37: n=0 notes=0 split=- trials=0 in=107 out=0 state=running next=14 held=[] numbers={N:0,M:0,I:0,K9:0,COUNT:0} strings={B:3230412d3132,G:,S1:,F:,C:}\nstep 38: n=0 notes=0 split=- trials=0 in=107 out=0 state=running next=21 held=[] numbers={N:0,M:0,I:0,K9:0,COUNT:0} strings={B:3230412d3132,G:,S1:,F:,C:}\nstep 39: n=0 notes=0 split=- trials=0 in=107 out=0 state=running next=14 held=[] numbers={N:0,M:0,I:0,K9:0,COUNT:0} strings={B:3230412d3132,G:,S1:,F:,C:}\nstep 40: n=0 notes=0 split=- trials=0 in=107 out=0 state=running next=21 held=[] numbers={N:0,M:0,I:0,K9:0,COUNT:0} strings={B:3230412d3132,G:,S1:,F:,C:}\nstep 41: n=0 notes=0 split=- trials=0 in=107 out=0 state=running next=14 held=[] numbers={N:0,M:0,I:0,K9:0,COUNT:0} strings={B:3230412d3132,G:,S1:,F:,C:}\nstep 42: n=0 notes=0 split=- trials=0 in=107 out=0 state=running next=21 held=[] numbers={N:0,M:0,I:0,K9:0,COUNT:0} strings={B:3230412d3132,G:,S1:,F:,C:}\nstep 43: n=0 notes=0 split=- trials=0 in=107 out=0 state=running next=14 held=[] numbers={N:0,M:0,I:0,K9:0,COUNT:0} strings={B:3230412d3132,G:,S1:,F:,C:}\nstep 44: n=0 notes=0 split=- trials=0 in=107 out=0 state=running next=21 held=[] numbers={N:0,M:0,I:0,K9:0,COUNT:0} strings={B:3230412d3132,G:,S1:,F:,C:}\nstep 45: n=0 notes=0 split=- trials=0 in=107 out=0 state=running next=14 held=[] numbers={N:0,M:0,I:0,K9:0,COUNT:0} strings={B:3230412d3132,G:,S1:,F:,C:}\nstep 46: n=0 notes=0 split=- trials=0 in=107 out=0 state=running next=21 held=[] numbers={N:0,M:0,I:0,K9:0,COUNT:0} strings={B:3230412d3132,G:,S1:,F:,C:}\nstep 47: n=0 notes=0 split=- trials=0 in=107 out=0 state=running next=14 held=[] numbers={N:0,M:0,I:0,K9:0,COUNT:0} strings={B:3230412d3132,G:,S1:,F:,C:}\nstep 48: n=0 notes=0 split=- trials=0 in=107 out=0 state=running next=21 held=[] numbers={N:0,M:0,I:0,K9:0,COUNT:0} strings={B:3230412d3132,G:,S1:,F:,C:}\nstep 49: n=0 notes=0 split=- trials=0 in=107 out=0 state=running next=14 held=[] numbers={N:0,M:0,I:0,K9:0,COUNT:0} strings={B:3230412d3132,G:,S1:,F:,C:}\nstep 50: n=0 notes=0 split=- trials=0 in=107 out=0 state=running next=21 held=[] numbers={N:0,M:0,I:0,K9:0,COUNT:0} strings={B:3230412d3132,G:,S1:,F:,C:}\nstep 51: n=0 notes=0 split=- trials=0 in=107 out=0 state=running next=14 held=[] numbers={N:0,M:0,I:0,K9:0,COUNT:0} strings={B:3230412d3132,G:,S1:,F:,C:}\nstep 52: n=0 notes=0 split=- trials=0 in=107 out=0 state=running next=21 held=[] numbers={N:0,M:0,I:0,K9:0,COUNT:0} strings={B:3230412d3132,G:,S1:,F:,C:}\nstep 53: n=0 notes=0 split=- trials=0 in=107 out=0 state=running next=14 held=[] numbers={N:0,M:0,I:0,K9:0,COUNT:0} strings={B:3230412d3132,G:,S1:,F:,C:}\nstep 54: n=0 notes=0 split=- trials=0 in=107 out=0 state=running next=21 held=[] numbers={N:0,M:0,I:0,K9:0,COUNT:0} strings={B:3230412d3132,G:,S1:,F:,C:}\nstep 55: n=0 notes=0 split=- trials=0 in=107 out=0 state=running next=14 held=[] numbers={N:0,M:0,I:0,K9:0,COUNT:0} strings={B:3230412d3132,G:,S1:,F:,C:}\nstep 56: n=0 notes=0 split=- trials=0 in=107 out=0 state=running next=21 held=[] numbers={N:0,M:0,I:0,K9:0,COUNT:0} strings={B:3230412d3132,G:,S1:,F:,C:}\nstep 57: n=0 notes=0 split=- trials=0 in=107 out=0 state=running next=14 held=[] numbers={N:0,M:0,I:0,K9:0,COUNT:0} strings={B:3230412d3132,G:,S1:,F:,C:}\nstep 58: n=0 notes=0 split=- trials=0 in=107 out=0 state=running next=21 held=[] numbers={N:0,M:0,I:0,K9:0,COUNT:0} strings={B:3230412d3132,G:,S1:,F:,C:}\nstep 59: n=0 notes=0 split=- trials=0 in=107 out=0 state=running next=14 held=[] numbers={N:0,M:0,I:0,K9:0,COUNT:0} strings={B:3230412d3132,G:,S1:,F:,C:}\nstep 60: n=0 notes=0 split=- trials=0 in=107 out=0 state=running next=21 held=[] numbers={N:0,M:0,I:0,K9:0,COUNT:0} strings={B:3230412d3132,G:,S1:,F:,C:}\n" ≡ true
unfolding agrees
v188 = refl
