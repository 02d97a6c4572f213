-- Decks with their inputs and traces. Assumes nothing.
use Rattle.std.specs.Prelude.{true, ◌≡◌, refl}
use Rattle.vectors.specs.Trace.{agrees, agrees_whole}

m040 : agrees "         PROGRAM TEST1\n         NUMBER N\nDONE     ROUTINE R1\nL2       C=C                                                           SEQ30044\nX9       ENDROUTINE\n         IF(N=LENGTH(C))/L1\n         IF(8>=N)/,L3\n L1      READ LINE                                                      SEQ31736\nLOOP     S1  =C$0,LI  NE,\"A\",C\nL3       END\n" "A-A0 ,A1AAB \n2,A\nAAB0B-0+ +B+2AA--2AA0+1- -+ 12AB  BB2 1A\n" "step 1: n=0 notes=0 split=- trials=0 in=0 out=0 state=running next=6 held=[] numbers={N:0} strings={C:,CS:,LINE:,S1:}\nstep 2: n=0 notes=0 split=- trials=0 in=0 out=0 state=running next=8 held=[] numbers={N:0} strings={C:,CS:,LINE:,S1:}\nstep 3: n=0 notes=0 split=- trials=0 in=13 out=0 state=running next=9 held=[] numbers={N:0} strings={C:,CS:,LINE:412d4130202c413141414220,S1:}\nstep 4: n=0 notes=0 split=- trials=0 in=13 out=0 state=running next=10 held=[] numbers={N:0} strings={C:,CS:,LINE:412d4130202c413141414220,S1:412d4130202c41314141422041}\nstep 5: n=0 notes=0 split=- trials=0 in=13 out=0 state=finished next=10 held=[] numbers={N:0} strings={C:,CS:,LINE:412d4130202c413141414220,S1:412d4130202c41314141422041}\n" ≡ true
unfolding agrees
m040 = refl

m041 : agrees "         PRO  GRAM LO TS\n         NUMBER N,M,I\n         M=N+N\n         A=S1$5\n         BACKSCAN TEXTLONG$I[(LINE),(A$N)]=\n         C=                                                             SEQ62751\n         R  OUTINE R2\n         IF(0=NU MBER(T  E XT LONG))/DONE  \nL3       S  CAN TE XTLONG$8[C]\nDONE     ENDROUTINE\n         IF(NULL(  C))/L2  ,L2\n         ROUTINE R3\nL1       END ROUT INE\n         ROUTINE R1\n         LINE=\nLOOP     N=171+0*N*0\n         SCAN S1[\"1\",\",1\",(A),(B),S1,(A),STRING(M)]/LOOP                SEQ55508\n        *IF (NU LL(C)\n         )/LOOP,LOOP\n    <    E NDROUTINE\n\n         N=NU MBER(  A)+2/(816 3  422)+3+1114\nX9       C$2=STRING(2,N)\n         IF(N>=N)/,L2\n         B =A,B$5\n         S CAN F[S1,(B) ,\"AB\",A]=\"B\",STRING(M)  /L2,L2\n* COMMENT 6\n        +SCAN F$I[(A),\"$-\",\"\"\n        C\",B$5,(B$M),S1,(C$3)\nIGNORED +]=TEXTLONG,STRING(M,\n         M),STRING(0,I),\"\"\"\nL2      CI =I*51 71459 /  ((+NUMBER(TEXTLONG)-LE  NG  TH(TEXTLONG)/N-  M\n         *LE NG  TH(  S1 ))/  6)                                        SEQ79205\n         END\n" "A\n" "REFUSED 5 20\n" ≡ true
unfolding agrees
m041 = refl

m042 : agrees "         PROGRAM LOTS\n         NUM  B ER SCA  N,M\n         READ(60) LINE$M\n* COMMENT 2\n        NUMBER=NUMBER,STRING(4,SCAN)\nL3       LINE=\"1ER$6\n         RO  UT  I<NE R  2\n         GO   TO  LOOP\n* COMMENT 8\n         S1$0=\"2\"\n LOOP    READ LINE\n         M=NUMBER(B)+(3621/SCAN+0)\n         ENDROUTINE\nL1       EXIT\nX9       EXEC UTE R1 \n         B=S1,L INE$3,S1\n                                                                        SEQ\n         ROUTINE R1\n* COMMENT 9\n L2      M=74 36424  -7656374*(M-SCAN)\n         GOTO DONE\n DONE    W  RI TE \"2 \",  S1$1\n* COMMENT 4\n         ENDROUTINE\n         END\n" "B+2AAA\n,2BB 2B -00-\n2,B++A++-212\n\n" "REFUSED 5 5\n" ≡ true
unfolding agrees
m042 = refl

m043 : agrees "         PROGRAM LOTS\n         NUMBER N,M,I\n       *S C  AN A$N[(S 1),(B),A, \"B\",\"A1AA, AA ,BA\",(C)  ,  STRING(N)] \nIGNORED  =\"2\"/LOOP\n         M=+M \n         PR I NT STRING(N )\n         WRITE(61) \nLOOP     N=I                                                         6420\n         BACKSCAN   S1[(B)]=B  , C/, L2                                 SEQ90033\n         BACKSCAN S1[S1,(C),(B)]=C\n L3      BACKSCAN C[S1,(S1),(A),C,(B),(A),(S1)]=C/,L3\n         REA D(60) B/,L  2\n        +IF(NULL(B))/L3,\n         L  OOP \nL2       GO TO X9\n* COMMENT 1\n        +BACKSC  AN A[STRING(  M),STRING(M,  M) , (S1$1),  (C) ]=\"$212/1\n         =+-/  \",B/L 3\n         ROUTINE R2\n         PR  IN  T \",B\",\"AA,B2AABA,,B\"\n         I=I-(189+LENGTH(C))/5+0                                        SEQ23050\n         S1=C\n   \n         ENDROUTINE\n         ROUTINE R1                                                     SEQ28512\nL1       B$5=C$6,\"A\"                                                    SEQ87517\n         BACK  SCAN A$6[ (B)]\n         ENDROUTINE\nX9       A=C,A,STRING(0,M)                                              SEQ07788\n         END\n" "+  0A+AB1,B+-2AB,2BB- B0121A01AAB1A--00A\n1,20-+\n20++,-\nAAAA+B" "REFUSED 5 3\n" ≡ true
unfolding agrees
m043 = refl

m044 : agrees "         PROGRAM TEST1\n        *NUMBE                                                          SEQ26446\n        1R N,M\n        +,GOTO\n         ,K9\n         READ B$2/DONE                                                  SEQ45426\n L1      WRITE STRING(K9),STRING(GOTO),STRING(N)\n* COMMENT 4\n         S CAN WRITE[\"AB\",(B$2  )]=WRITE$0002 ,\"0*0\"/  DO NE,L2 \n* COMMENT 1\n         SCAN   B[B $  2  ]=  \"/1\"/L 3 ,L3\n         B=\"1\"                                                          SEQ42329\n         WRITE(61) B,WRITE\n         B$K9=\" 2A\",B$4\n         ROU  TINE R1\n LOOP    ENDROUTINE\n* COMMENT 2\nL2       WRITE=B,B$N\nL3       SCAN WRITE$002[(B$1),(B)]=WRITE$00,WRITE$0/L3,L3\n         N=-5005713*  M  -LENGT  H(B)*(10+(186 )*63 )\nDONE    XW  R  ITE  =W  RI \n        * /TE ,  B,B$  3,\"21\n         \"\n         WRITE=WRITE\n X9      END\n" "" "REFUSED 5 21\n" ≡ true
unfolding agrees
m044 = refl

m045 : agrees "         PROGRAM TEST1\n         NUMBER N\nLOOP     BACKSCAN B$N[(C),(A$1),B]/L2\nX9       BA  CK  S  CAN B[(C),\"\"\"]/,D ONE\nL3       WR  I  TE(61) B,C\nL1       GO TO LOOP                                                     SEQ48368\nDONE     BACKSCA N A[(C  ),B\n$6]= \"\"\"\nL2       B=B$6,\"B\"\n         END\n" "0-A,2,\nA  - 1A  BA-01 A21AB+,0200+A +B--2A+--B-\n" "REFUSED 5 7\n" ≡ true
unfolding agrees
m045 = refl

m046 : agrees "         PROGRAM LOTS\n         NUMBER N,M                                                                \nLOOP     S1=S1,\"/(3=*,,*, )(\"                                           SEQ88337\nL1       ROUTINE R1\n         N=MM                                                         SEQ26773\nDONE     N=I*M\nX9       ENDROUTINE\nL2       READ(60) B$4/ ,L2\nL3       END\n" "\n0A- 2+\nA\n\n" "REFUSED 3 2\n" ≡ true
unfolding agrees
m046 = refl

m047 : agrees "         PRO GRA  M P                                                   SEQ98589\n         NUMBE R   N                                                   SEQ27204\n         READ B/,L3 \n         BACKSCAN A[STRING(N)]=STRING(N),STRING(N)/,L3\n         WRITE(61) STRING(N),LINE\n         BACKSCAN B[(LINE$3),\"3*A,)2(($+3/\",(S1)]=/X9,X9\n         R OUTINE R3\n* COMMENT 5\n\n         C$N=\"=/\",\"+\"\n* COMMENT 6\n         SC  AN C[C,\"A\",\"A\"]/DONE\nDONE     PRINT(61) \")A\"\n         A$6 =S1  \n         ENDROUTINE                                                     SEQ62755\n         N=N\n         R  E  AD     A/ ,X 9\nLOOP    +I F(LENGTH(S 1)=7) /LOOP ,\n         LO  OP\n         ROUTINE R2                                                     SEQ53071\nL2       SCAN LINE[(B$3),\")/B03,11,)+A\",(C $3),(B),(S1 $3)] =ST RING(N) SEQ14304\n         N=-N\n         ENDROUTINE\n         ROUTINE R1\n* COMMENT 8\n        XSCAN LINE[C$2,B$N,LINE$2,(C$N),\"*2$)**3,$ 0,\"]=A,B,STRING(8,N)/\n         L1\n         READ S1\nL1       IF(N=0)/L1\n         ENDROUTINE\n         BAC  KSC  AN B$  N [  (C)]=\n         PRINT(61) A\nL3       IF(9>N)/L3,X9\nX9       END                                                            SEQ55598\n" "\n+\nAA0+BA\n\n0\n-B1A+1A1 1-,\n2-,,2,BA,A2A\n\n" "REFUSED 7 4\n" ≡ true
unfolding agrees
m047 = refl

m048 : agrees "         P\"OGRAM T E ST1\n         NUMB  E R N,  M,I\n X9      S1=\"2\",STRING(N),\" A\"\n         S1=\",\",C\n         READ(60) B$5/X9\nLOOP     WRI  TE                                                        SEQ48527\nL1       ROUTINE R1\n         IF(  -05<=+6) /L3\n         RETURN\n         C$3=\nL3       ENDROUTINE\nL2       I =-LE NGTH(C)+LENGTH(A)-0\nDONE     END                                                            SEQ56179\n" "1 - -++10-2--A 21B0A 01BAA-BA+,1002,0A-2\n,2,0+A21BA2AA20  22 0A2A,A,1,AA+A+BA,AB2\n-1A\n1++,AB\nA0B0212+1A2ABB+A01-2-+2A11-A B,,BA,1AB-,\n+-B\n-\nAAA\n" "REFUSED 4 1\n" ≡ true
unfolding agrees
m048 = refl

m049 : agrees "         PROGRAM TEST1\n         NUMBER N,M,I\n         WRITE B,  B  \nX9       PRINT(61) \" 2A\",\",\",A$I,A$6\n         ROUTINE R2\nL2       SCAN A[\"A\",(  B)]=\"2A  B\",STR  ING(I,M),\"3\"/L2,L2\n         PRINT S TR ING(N),\"1\"\n         ENDROUTINE\nDONE     PR I  NT S TRING(3 ,M  ),B,STRING(N)\n* COMMENT 9\nL3       R OUTIN  E R1\n         BACKSCAN A[B$N,(B$2)]=A,\"A\"/L1,L1\n\n         IF(0<>N)/,L1                                                   SEQ34624\n         GO TO L1\n L1      ENDROUTIN  E                                                   SEQ40771\n* COMMENT 7\n LOOP    N=((LENGTH(B)-(-M/ 1289)*N+(79)/N)  /9)\n         END  \n" "1,AA+A\nA+B\n\nB2A-+A\nB101,A-A2-A1\nA+A\nA2A0A+01 -,0102A1B0AA1A-2AA-A1BBAA,A0AAB\nA,+" "step 1: n=0 notes=0 split=- trials=0 in=0 out=0 state=running next=4 held=[] numbers={N:0,M:0,I:0} strings={B:,A:}\nstep 2: n=0 notes=0 split=- trials=0 in=0 out=5 state=running next=5 held=[] numbers={N:0,M:0,I:0} strings={B:,A:}\nstep 3: n=0 notes=0 split=- trials=0 in=0 out=5 state=running next=9 held=[] numbers={N:0,M:0,I:0} strings={B:,A:}\nstep 4: n=0 notes=0 split=- trials=0 in=0 out=10 state=running next=11 held=[] numbers={N:0,M:0,I:0} strings={B:,A:}\nstep 5: n=0 notes=0 split=- trials=0 in=0 out=10 state=running next=18 held=[] numbers={N:0,M:0,I:0} strings={B:,A:}\nstep 6: n=18 notes=0 split=- trials=0 in=0 out=10 state=stopped next=18 held=[] numbers={N:0,M:0,I:0} strings={B:,A:}\n" ≡ true
unfolding agrees
m049 = refl

m050 : agrees "         PROGR AM P\n         NUMBE  R     N,  M,I\n         M =-N\n         GO TO L  1\n         TEXTLONG=\"/B\",STRING(I),STRING(N),\" A2B,1, 1 1A\"\nLOOP     N=N\n L1      WRITE \"//(\"\n         B=S1$N,C\n         IF(-3>M)/X9,LOOP\n         C=LINE$6,\"  2+-\"\n         READ S1/  L  1\n         ROUT  INE R1  \n L2      ENDROU\u{1}INE\n         PRINT A$M,LINE$I,A$0001\n DONE    B=LINE ,\"-3\"\n         IF(NUMERIC(C))/LOOP                                            SEQ32018\n         READ C$3/L1,L1\n         SCAN S1[(B$3),(C$M)]/LOOP,X9\n         ROUTINE R2                                                     SEQ28079\n         READ C/L3\n         GO TO L3\n* COMMENT 9\nL3       M=I\n         M=+LENGTH(C  )\n         EN DRO  UTINE\nX9       END                                                            SEQ93655" "" "REFUSED 3 13\n" ≡ true
unfolding agrees
m050 = refl

m051 : agrees "         PROGRAM TEST1\n         NUMBER N\n         B=S1,\"B1\",\",\",STRING(N,N)\n         ROUTINE R1\n* COMMENT 2\nL1       N=(NU  MB ER(LI NE$ 0 )/LENGT H(B)*N)\n        1N=N*NUMBER(S1$2)*LENGTH(B)+N*2211+(NUMBER(S1)+N/LENGTH(LINE))*(\n         N+(5+N+5*N+N-NUMBER(LINE))/(N))-4                              SEQ45445\n         WRITE \"A,BB2A11 A,A\",\"\"\"\n         RETURN\n L3      ENDROUTINE                                                     SEQ42610\n         N=NUMBER(C)+(N+3248*NUMBER(C)-NUMBER(A))/(NUMBER(B))*LENGTH(A)\n         ROUTINE R3\nLOOP     S1$N=\nDONE     ENDROUTINE\n         IF (N  ULL( A) )/  X9                                    SEQ31542\n         PRINT(  61) \"   B ,2AA2A1\"\n         IF(NULL(LINE))/X9\nX9       ROUTINE R2\n* COMMENT 9\nL2       READ LINE$4/L2,L2\n         N=-  N\n         B=STRING(N),LINE\n         ENDROUTINE\n         PRINT(6 1)   A\n         SCAN  LI NE[(C$N)]\n         BACKSCAN B$N[]/X9                                              SEQ41648\n         READ LINE/X9\n         END\n" "" "REFUSED 11 0\n" ≡ true
unfolding agrees
m051 = refl

m052 : agrees "        *PROGRA\nIGNORED  M P\n         NUMBER    N ,M\n L1      SCAN B[(A),(A$  3),  ( A) ,\")\",STRING(8,N)]  /LO OP\nX9      CBAC  KSCAN A[(B),\"*\",(B$0  ),STRING(0,N),\"B\",A,(B ) ]=ST  RING(\n         M,N ),B$5,A,\" 22 2A1BBB1,\"/  L3,LOOP\n         IF( 5=NUMBER(B$6))/L3\n         BACKSCAN B[(A$2),\"2\"]                                          SEQ87656\n         READ A/L2\n         READ(60) B$6\n         IF  (NUMERIC(A$N)  )/,L3\nDONE     IF(6<1)/L1\nL3       WRIT  E(61) B$05\nL2       IF(N<>N)/LOOP,L1\n         END\n" "\nAB2B1+AA11-+" "REFUSED 11 0\n" ≡ true
unfolding agrees
m052 = refl

m053 : agrees "       M P\n         NUMBER N,M\nLOOP     RO  UTINE  R1  \n        XSCAN C$7[(TEXTLONG$0000),G,A$M,\"\"\",STRING(M,N)]=STRING(N,N),LIN\n         E/L3\nL3       F=LINE,G$M\nDONE     BACKSCAN LINE[LINE$N,(F$002)]=\"A\"/,L2\n L2      G=\",(\"\n* COMMENT 4\n   \n         ENDROUTINE\n X9      M=M                                                            SEQ41573\n* COMMENT 2\n L1      END\n" "," "REFUSED 4 1\n" ≡ true
unfolding agrees
m053 = refl

m054 : agrees "         PROGRAM TEST1\n         NUMBER N,M\n X9      TEXTLONG=\"(\"                                                   SEQ77481\nL1       S1=G$3,S1,\"2A\",STRIN(7,N)\n L3      G=\"A\"\nDONE     LINE=\"\"\",\"-1$$$-A1+1,0\",S1\nLOOP     S CAN B[( A$1),(TEXTLONG),  (  G) ]=LINE\n L2      END\n" "A\n2\n,0AA,12 2A1BA-0A+02B   A A00A,A1 1 0BAB+\nA" "REFUSED 5 4\n" ≡ true
unfolding agrees
m054 = refl

m055 : agrees "         P9OGRAM TEST1\n         NUMBER N,M,I                                                   SEQ17691\n\n DONE    S1=S1,\" A\"\n* COM$MENT 5\nL3       GO TO X9\nL2       R OU  T I NE R1                      )                          SEQ50542\n         A$2=\nLOOP     ENDROUTINE  \nX9       END\n" "-\n\n" "REFUSED 4 1\n" ≡ true
unfolding agrees
m055 = refl

m056 : agrees "         PROGRAM P\n         NUM  B ER   EXI  T\n L2     XG=C,STRING(\n        14  ,EX  IT)\n        +,\"=,,\",  A \n          $6  \n L1     1C=STRING(EX\n         IT)\nLOOP     IF(EIT=EXIT)/X9\nX9       SCAN F[(G),S1,(S1),(A),(A)]=\"=\",\"/\",STRING,STRING/,L3\n L3  .   IF(NULL(C))/X9\nDONE     END\n" "--+++ +0AA1,A-+02,A+0AA-2A21 -2+,2- -B,A\n211\n012AAA\n1\n" "REFUSED 7 9\n" ≡ true
unfolding agrees
m056 = refl

m057 : agrees "         PROGRAMLOTS9         1U M BER N,M,  I,K9\nLOOP     BACKSCAN TEXTLONG$N[(S1$3)]=B,STR ING(N),\"-\",\"-\"\n L3      BACKSCAN B$K9[]\n DONE    LINE=\n L2      TEXTLONG$4=F,\"2  A A11A222\",TEXTLONG,A\n L1      SCAN TEXTLONG[S1,S1$5]=C,\",AA1 \",STRING(I)\n         K9=+(+(M-LENGTH(S1))*M*LENGTH(LINE)+M+M)-N*(7)\nX9       B$5=STRING(I)                                                  SEQ77530\n         IF(+3>=+1)/L3\n         N=1691+K9\n         IF(NUMBER(A)<=7)/LOOP,L1\n\n         END\n" "" "REFUSED 5 1\n" ≡ true
unfolding agrees
m057 = refl

m058 : agrees "         PROGRAM P\n         NUM  BER   N,M,I,K9,COUNT                                      SEQ70288\n         B=\n         S  C  AN LI  NE[( B)]=  \"A\"\nL1       N=-3\n         SCAN C$8[(LINE),S1$5,(S1$3),(A)]                               SEQ19757\nL2       S1=\"/((\"\nX9       ROUTINE R1\n         BACKSCAN A[]\n         COUNT=5  1/M\nLOOP     ENDROUTINE                                                  SEQ37857\n* COMMENT 0\nL3       END\n" "-+A,,,BA-A2AABAA0+ 112 AA A2-AA0 +AB2012\n\n+ +22A++21A \n+BA\n" "REFUSED 5 11\n" ≡ true
unfolding agrees
m058 = refl

m059 : agrees "         PROGRAM T  EST1\n         NUMBER GOTO,M,I                                                SEQ17452\n         IF(NULL(S1))/LOOP\n         GOTO=1268148+LENGTH(TEXTLONG)\n         WRITE \"21\"\nL2       SCAN S1[\"A\"]\n         ROUTINE R2 \nL3       GO TO L3\n         ENDROUTINE\n         RO UTI NE R1\n         SCAN S1$M[(TEXTLONG),STRING(M),STRING(M),(B$M),S1]=\"3*(+(\"/X9\n        1SCAN ROUTI\n        1NE[\",B\",\" \n        CAA,BBA,22A\nIGNORED   \"]=/X9,X9\nX9       ENDROUT  INE \n LOOP    SCAN B$02[(LI  NE),STRING(8,M)  ,\"BAB,2\",\"A ,\"]  =             SEQ23930\n         TEXTLON G=\", \",STRIN  G( I )\n        CBACKSCAN  ROUTINE[ TEXTLO NG$4, (B$1)  ,\"1\",\"A,\"]=\"B*\",STRING(-\n         1,M ),\", 2\"/ LOO P \nL1       M=I\nDONE     EXECUTE R2\n         E  ND \n" "" "step 1: n=0 notes=0 split=- trials=0 in=0 out=0 state=running next=17 held=[] numbers={GOTO:0,M:0,I:0} strings={S1:,TEXTLONG:,B:,ROUTINE:,LINE:}\nstep 2: n=0 notes=0 split=- trials=1 in=0 out=0 state=running next=18 held=[] numbers={GOTO:0,M:0,I:0} strings={S1:,TEXTLONG:,B:,ROUTINE:,LINE:}\nstep 3: n=0 notes=0 split=- trials=0 in=0 out=0 state=running next=19 held=[] numbers={GOTO:0,M:0,I:0} strings={S1:,TEXTLONG:2c2030,B:,ROUTINE:,LINE:}\nstep 4: n=0 notes=0 split=- trials=1 in=0 out=0 state=running next=21 held=[] numbers={GOTO:0,M:0,I:0} strings={S1:,TEXTLONG:2c2030,B:,ROUTINE:,LINE:}\nstep 5: n=0 notes=0 split=- trials=0 in=0 out=0 state=running next=22 held=[] numbers={GOTO:0,M:0,I:0} strings={S1:,TEXTLONG:2c2030,B:,ROUTINE:,LINE:}\nstep 6: n=0 notes=0 split=- trials=0 in=0 out=0 state=running next=8 held=[23] numbers={GOTO:0,M:0,I:0} strings={S1:,TEXTLONG:2c2030,B:,ROUTINE:,LINE:}\nstep 7: n=0 notes=0 split=- trials=0 in=0 out=0 state=running next=8 held=[23] numbers={GOTO:0,M:0,I:0} strings={S1:,TEXTLONG:2c2030,B:,ROUTINE:,LINE:}\nstep 8: n=0 notes=0 split=- trials=0 in=0 out=0 state=running next=8 held=[23] numbers={GOTO:0,M:0,I:0} strings={S1:,TEXTLONG:2c2030,B:,ROUTINE:,LINE:}\nstep 9: n=0 notes=0 split=- trials=0 in=0 out=0 state=running next=8 held=[23] numbers={GOTO:0,M:0,I:0} strings={S1:,TEXTLONG:2c2030,B:,ROUTINE:,LINE:}\nstep 10: n=0 notes=0 split=- trials=0 in=0 out=0 state=running next=8 held=[23] numbers={GOTO:0,M:0,I:0} strings={S1:,TEXTLONG:2c2030,B:,ROUTINE:,LINE:}\nstep 11: n=0 notes=0 split=- trials=0 in=0 out=0 state=running next=8 held=[23] numbers={GOTO:0,M:0,I:0} strings={S1:,TEXTLONG:2c2030,B:,ROUTINE:,LINE:}\nstep 12: n=0 notes=0 split=- trials=0 in=0 out=0 state=running next=8 held=[23] numbers={GOTO:0,M:0,I:0} strings={S1:,TEXTLONG:2c2030,B:,ROUTINE:,LINE:}\nstep 13: n=0 notes=0 split=- trials=0 in=0 out=0 state=running next=8 held=[23] numbers={GOTO:0,M:0,I:0} strings={S1:,TEXTLONG:2c2030,B:,ROUTINE:,LINE:}\nstep 14: n=0 notes=0 split=- trials=0 in=0 out=0 state=running next=8 held=[23] numbers={GOTO:0,M:0,I:0} strings={S1:,TEXTLONG:2c2030,B:,ROUTINE:,LINE:}\nstep 15: n=0 notes=0 split=- trials=0 in=0 out=0 state=running next=8 held=[23] numbers={GOTO:0,M:0,I:0} strings={S1:,TEXTLONG:2c2030,B:,ROUTINE:,LINE:}\nstep 16: n=0 notes=0 split=- trials=0 in=0 out=0 state=running next=8 held=[23] numbers={GOTO:0,M:0,I:0} strings={S1:,TEXTLONG:2c2030,B:,ROUTINE:,LINE:}\nstep 17: n=0 notes=0 split=- trials=0 in=0 out=0 state=running next=8 held=[23] numbers={GOTO:0,M:0,I:0} strings={S1:,TEXTLONG:2c2030,B:,ROUTINE:,LINE:}\nstep 18: n=0 notes=0 split=- trials=0 in=0 out=0 state=running next=8 held=[23] numbers={GOTO:0,M:0,I:0} strings={S1:,TEXTLONG:2c2030,B:,ROUTINE:,LINE:}\nstep 19: n=0 notes=0 split=- trials=0 in=0 out=0 state=running next=8 held=[23] numbers={GOTO:0,M:0,I:0} strings={S1:,TEXTLONG:2c2030,B:,ROUTINE:,LINE:}\nstep 20: n=0 notes=0 split=- trials=0 in=0 out=0 state=running next=8 held=[23] numbers={GOTO:0,M:0,I:0} strings={S1:,TEXTLONG:2c2030,B:,ROUTINE:,LINE:}\nstep 21: n=0 notes=0 split=- trials=0 in=0 out=0 state=running next=8 held=[23] numbers={GOTO:0,M:0,I:0} strings={S1:,TEXTLONG:2c2030,B:,ROUTINE:,LINE:}\nstep 22: n=0 notes=0 split=- trials=0 in=0 out=0 state=running next=8 held=[23] numbers={GOTO:0,M:0,I:0} strings={S1:,TEXTLONG:2c2030,B:,ROUTINE:,LINE:}\nstep 23: n=0 notes=0 split=- trials=0 in=0 out=0 state=running next=8 held=[23] numbers={GOTO:0,M:0,I:0} strings={S1:,TEXTLONG:2c2030,B:,ROUTINE:,LINE:}\nstep 24: n=0 notes=0 split=- trials=0 in=0 out=0 state=running next=8 held=[23] numbers={GOTO:0,M:0,I:0} strings={S1:,TEXTLONG:2c2030,B:,ROUTINE:,LINE:}\nstep 25: n=0 notes=0 split=- trials=0 in=0 out=0 state=running next=8 held=[23] numbers={GOTO:0,M:0,I:0} strings={S1:,TEXTLONG:2c2030,B:,ROUTINE:,LINE:}\nstep 26: n=0 notes=0 split=- trials=0 in=0 out=0 state=running next=8 held=[23] numbers={GOTO:0,M:0,I:0} strings={S1:,TEXTLONG:2c2030,B:,ROUTINE:,LINE:}\nstep 27: n=0 notes=0 split=- trials=0 in=0 out=0 state=running next=8 held=[23] numbers={GOTO:0,M:0,I:0} strings={S1:,TEXTLONG:2c2030,B:,ROUTINE:,LINE:}\nstep 28: n=0 notes=0 split=- trials=0 in=0 out=0 state=running next=8 held=[23] numbers={GOTO:0,M:0,I:0} strings={S1:,TEXTLONG:2c2030,B:,ROUTINE:,LINE:}\nstep 29: n=0 notes=0 split=- trials=0 in=0 out=0 state=running next=8 held=[23] numbers={GOTO:0,M:0,I:0} strings={S1:,TEXTLONG:2c2030,B:,ROUTINE:,LINE:}\nstep 30: n=0 notes=0 split=- trials=0 in=0 out=0 state=running next=8 held=[23] numbers={GOTO:0,M:0,I:0} strings={S1:,TEXTLONG:2c2030,B:,ROUTINE:,LINE:}\nstep 31: n=0 notes=0 split=- trials=0 in=0 out=0 state=running next=8 held=[23] numbers={GOTO:0,M:0,I:0} strings={S1:,TEXTLONG:2c2030,B:,ROUTINE:,LINE:}\nstep 32: n=0 notes=0 split=- trials=0 in=0 out=0 state=running next=8 held=[23] numbers={GOTO:0,M:0,I:0} strings={S1:,TEXTLONG:2c2030,B:,ROUTINE:,LINE:}\nstep 33: n=0 notes=0 split=- trials=0 in=0 out=0 state=running next=8 held=[23] numbers={GOTO:0,M:0,I:0} strings={S1:,TEXTLONG:2c2030,B:,ROUTINE:,LINE:}\nstep 34: n=0 notes=0 split=- trials=0 in=0 out=0 state=running next=8 held=[23] numbers={GOTO:0,M:0,I:0} strings={S1:,TEXTLONG:2c2030,B:,ROUTINE:,LINE:}\nstep 35: n=0 notes=0 split=- trials=0 in=0 out=0 state=running next=8 held=[23] numbers={GOTO:0,M:0,I:0} strings={S1:,TEXTLONG:2c2030,B:,ROUTINE:,LINE:}\nstep 36: n=0 notes=0 split=- trials=0 in=0 out=0 state=running next=8 held=[23] numbers={GOTO:0,M:0,I:0} strings={S1:,TEXTLONG:2c2030,B:,ROUTINE:,LINE:}\nstep 37: n=0 notes=0 split=- trials=0 in=0 out=0 state=running next=8 held=[23] numbers={GOTO:0,M:0,I:0} strings={S1:,TEXTLONG:2c2030,B:,ROUTINE:,LINE:}\nstep 38: n=0 notes=0 split=- trials=0 in=0 out=0 state=running next=8 held=[23] numbers={GOTO:0,M:0,I:0} strings={S1:,TEXTLONG:2c2030,B:,ROUTINE:,LINE:}\nstep 39: n=0 notes=0 split=- trials=0 in=0 out=0 state=running next=8 held=[23] numbers={GOTO:0,M:0,I:0} strings={S1:,TEXTLONG:2c2030,B:,ROUTINE:,LINE:}\nstep 40: n=0 notes=0 split=- trials=0 in=0 out=0 state=running next=8 held=[23] numbers={GOTO:0,M:0,I:0} strings={S1:,TEXTLONG:2c2030,B:,ROUTINE:,LINE:}\nstep 41: n=0 notes=0 split=- trials=0 in=0 out=0 state=running next=8 held=[23] numbers={GOTO:0,M:0,I:0} strings={S1:,TEXTLONG:2c2030,B:,ROUTINE:,LINE:}\nstep 42: n=0 notes=0 split=- trials=0 in=0 out=0 state=running next=8 held=[23] numbers={GOTO:0,M:0,I:0} strings={S1:,TEXTLONG:2c2030,B:,ROUTINE:,LINE:}\nstep 43: n=0 notes=0 split=- trials=0 in=0 out=0 state=running next=8 held=[23] numbers={GOTO:0,M:0,I:0} strings={S1:,TEXTLONG:2c2030,B:,ROUTINE:,LINE:}\nstep 44: n=0 notes=0 split=- trials=0 in=0 out=0 state=running next=8 held=[23] numbers={GOTO:0,M:0,I:0} strings={S1:,TEXTLONG:2c2030,B:,ROUTINE:,LINE:}\nstep 45: n=0 notes=0 split=- trials=0 in=0 out=0 state=running next=8 held=[23] numbers={GOTO:0,M:0,I:0} strings={S1:,TEXTLONG:2c2030,B:,ROUTINE:,LINE:}\nstep 46: n=0 notes=0 split=- trials=0 in=0 out=0 state=running next=8 held=[23] numbers={GOTO:0,M:0,I:0} strings={S1:,TEXTLONG:2c2030,B:,ROUTINE:,LINE:}\nstep 47: n=0 notes=0 split=- trials=0 in=0 out=0 state=running next=8 held=[23] numbers={GOTO:0,M:0,I:0} strings={S1:,TEXTLONG:2c2030,B:,ROUTINE:,LINE:}\nstep 48: n=0 notes=0 split=- trials=0 in=0 out=0 state=running next=8 held=[23] numbers={GOTO:0,M:0,I:0} strings={S1:,TEXTLONG:2c2030,B:,ROUTINE:,LINE:}\nstep 49: n=0 notes=0 split=- trials=0 in=0 out=0 state=running next=8 held=[23] numbers={GOTO:0,M:0,I:0} strings={S1:,TEXTLONG:2c2030,B:,ROUTINE:,LINE:}\nstep 50: n=0 notes=0 split=- trials=0 in=0 out=0 state=running next=8 held=[23] numbers={GOTO:0,M:0,I:0} strings={S1:,TEXTLONG:2c2030,B:,ROUTINE:,LINE:}\nstep 51: n=0 notes=0 split=- trials=0 in=0 out=0 state=running next=8 held=[23] numbers={GOTO:0,M:0,I:0} strings={S1:,TEXTLONG:2c2030,B:,ROUTINE:,LINE:}\nstep 52: n=0 notes=0 split=- trials=0 in=0 out=0 state=running next=8 held=[23] numbers={GOTO:0,M:0,I:0} strings={S1:,TEXTLONG:2c2030,B:,ROUTINE:,LINE:}\nstep 53: n=0 notes=0 split=- trials=0 in=0 out=0 state=running next=8 held=[23] numbers={GOTO:0,M:0,I:0} strings={S1:,TEXTLONG:2c2030,B:,ROUTINE:,LINE:}\nstep 54: n=0 notes=0 split=- trials=0 in=0 out=0 state=running next=8 held=[23] numbers={GOTO:0,M:0,I:0} strings={S1:,TEXTLONG:2c2030,B:,ROUTINE:,LINE:}\nstep 55: n=0 notes=0 split=- trials=0 in=0 out=0 state=running next=8 held=[23] numbers={GOTO:0,M:0,I:0} strings={S1:,TEXTLONG:2c2030,B:,ROUTINE:,LINE:}\nstep 56: n=0 notes=0 split=- trials=0 in=0 out=0 state=running next=8 held=[23] numbers={GOTO:0,M:0,I:0} strings={S1:,TEXTLONG:2c2030,B:,ROUTINE:,LINE:}\nstep 57: n=0 notes=0 split=- trials=0 in=0 out=0 state=running next=8 held=[23] numbers={GOTO:0,M:0,I:0} strings={S1:,TEXTLONG:2c2030,B:,ROUTINE:,LINE:}\nstep 58: n=0 notes=0 split=- trials=0 in=0 out=0 state=running next=8 held=[23] numbers={GOTO:0,M:0,I:0} strings={S1:,TEXTLONG:2c2030,B:,ROUTINE:,LINE:}\nstep 59: n=0 notes=0 split=- trials=0 in=0 out=0 state=running next=8 held=[23] numbers={GOTO:0,M:0,I:0} strings={S1:,TEXTLONG:2c2030,B:,ROUTINE:,LINE:}\nstep 60: n=0 notes=0 split=- trials=0 in=0 out=0 state=running next=8 held=[23] numbers={GOTO:0,M:0,I:0} strings={S1:,TEXTLONG:2c2030,B:,ROUTINE:,LINE:}\n" ≡ true
unfolding agrees
m059 = refl
