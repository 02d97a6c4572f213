-- Decks with their inputs and traces. Assumes nothing.
use Rattle.std.specs.Prelude.{true, ◌≡◌, refl}
use Rattle.vectors.specs.Trace.{agrees, agrees_whole}

m060 : agrees "         PROGRAM TEST1\n         N UMBER N,M,PRIN  T\n LOOP    I(NUMERIC(A$N)) /L 3,D O  NE\n         PRINT NUMERI C,ST  RING(M),\"2\"\nDONE     SC A N NUMERIC A\"]/ ,L2 \nL2       SCAN NUMERIC$0[]=A\n X9     CSCAN NUMERIC$                                                  SEQ52567\n        +2[\"B\",(B),(A)\n        +,(B),(C)]=\"A\"                                                  SEQ22434\n         ,\"\"\"/,DONE\n         GO TO X9\nL3       READ B$0/DONE,X9\nL1       PRINT=M  *PRINT*3-  M/ 3410071 \n         END" "-+A\n" "REFUSED 5 3\n" ≡ true
unfolding agrees
m060 = refl

m061 : agrees "         PROGRAM P                                                      SEQ38152\n         NUMBER   N,NU M BERN,I\nX9       ROUTINE R1\nL3       A=                                                             SEQ11992\nDONE     IF(LENGTH(A)<>NUMBERN)/,LOOP\nLOOP     ENDR  OUTIN  E \n       CNUMBERN=+(N/6*I/NUMBER(STRING)*N/I/N(3+206675*70-I*(4148\n         780))/142955/LENGTH(C))\n         R OU  T INE R 2\n L1      STR  I NG=STR  ING\n* COMMENT 7\n L2      E NDRO  UTINE                                                  SEQ88242\n         END\n" "1A2A2,+0+,-,\n\n" "REFUSED 5 7\n" ≡ true
unfolding agrees
m061 = refl

m062 : agrees "         PROGRAM  LO  TS\n         NUMBE R N,I\n         ROUTINE R1\nX9       SCAN  TE  XTLON  G[TEXTLONG,(A),(A),B,(A$3)]\"SCAN$4, C/,X9     SEQ80033\n         READ LINE/X9\n         READ TEXTLONG$2/,X9\n* COMMENT 7\n         ENDR O UTINE\n    -    IF(I>=LENGTH(B))/L1\n LOOP    WRITE SCAN\nDONE     A=\"*)\"\n L3      I=LENGTH(B)\n         READ LINE/,DONE\n         A=\"(*)\"\n L1      END" "" "REFUSED 5 4\n" ≡ true
unfolding agrees
m062 = refl

m063 : agrees "         PROGRAM TEST1\n         NUMBER N\n        CBAC KSCAN B$4[\"1B2  \",(C  $1),A$ N,(C),(LI  N E$3), B,(S1$0  )]\n         =\n         READ A\n         N=N+NUMBER(LINE)/N\n         ROU TINE R1\nL2       ENDROUTINE\n         C=LBNE$01,\"\"\"                                                  SEQ29844\n         READ LINE$3/L3,L1  \n DONE    READ(60) LINE\n L3     XBACKSCAN LINE$N[S1$4,\n         (S1$N),(B)]/,LOOP\nL1       ROUTI  NE R2\n X9      C$6=  STRIN G(N,N)\n         ENDROUTINE\n         WRITE   C\n         READ(60) C/L1\n         WRITE C,\"B1\",\"A1\",STRING(N)\n         W  RITE \",A2\"\n        CS1$N=\n         \"+A\"\n         WRI  TE   LIN  E$6\nLOOP     END" " -200,\n AA-,,-0A0,1,AA2  0- 11A, +-221+02A0AB-+\n" "step 1: n=0 notes=0 split=- trials=1 in=0 out=0 state=running next=5 held=[] numbers={N:0} strings={B:,C:,A:,LINE:,S1:,LBNE:}\nstep 2: n=0 notes=0 split=- trials=0 in=7 out=0 state=running next=6 held=[] numbers={N:0} strings={B:,C:,A:202d3230302c,LINE:,S1:,LBNE:}\nstep 3: n=18 notes=0 split=- trials=0 in=7 out=0 state=stopped next=6 held=[] numbers={N:0} strings={B:,C:,A:202d3230302c,LINE:,S1:,LBNE:}\n" ≡ true
unfolding agrees
m063 = refl

m064 : agrees "         PROG  RAM P\n        /NUMBER N,LENGTH\nL1       S1=LINE$N,TEXTLONG$3\nL3       S1  =\nDONE     B=S1$3                                                         SEQ62560\nX9       L I  NE=\"=*\"\n L2      EXIT\nLOOP     END                                                            SEQ44721\n" "\n0,-ABA\nA\n-12" "REFUSED 3 2\n" ≡ true
unfolding agrees
m064 = refl

m065 : agrees "X9     TE \n         PROGRAM TEST1                                                  SEQ57396\n         NUMBER  N\n         RO UT I  N  E   R2\n         N=+N\n         R  EAD F/L1  \n        +IF(LENGTH(C)>=N)/,L\nIGNORED  1\nL1       RETUR N\n         ENDROUTIN E\nDON\u{1}     ROUTINE   R1\nLOOP     S1=\",\"\nX9       WRITE \nL2       EN DROUTINE\n         A$0  =TEXTLONG$  1 ,\"AAA\",LINE\nL3       END\n" "B A\n,1,A 10 ,,2," "REFUSED 3 11\n" ≡ true
unfolding agrees
m065 = refl

m066 : agrees "         P  ROGRAM TES  T1\n         N  UMBER N,M\n X9    < M=M*M/(89*NUMBER(TEXTLONG))-LENGTH(S1)*N                       SEQ98961\n         N  =NUMB ER(LINE)  \n         C=STRING(-5  ,M),S1,\",2\",STRING(-3,M ) \nL2      *SCAN F[(A$N),TEXTLONG$02,STRING(N)]=STRING(0,M),STRING(0,M),\"1A\n         2\"/,DONE\n         READ(60) S1/LOOP,LOOP\n L3      SCAN LINE[(B),(F$3),(A),(G)]/DONE\nL1       READ LINE $ 1  /  L2\n         B=\",,222\"\n         IF(+2<>N)/,X9\n         F=\",121 \",\"1\"\n        CSCAN C[(A$2),S\n        CTRING(M)]=G,ST\n        1RING(-000,M),\"\n        XBBBAB2  B,22\",\n         \" 2,A,\"/,L3                                                    SEQ63002\nLOOP     TEXTLONG=C$005,\"2\"\nDONE     GOTO L1\n         GOTO L1\n         END\n" "" "REFUSED 5 3\n" ≡ true
unfolding agrees
m066 = refl

m067 : agrees "         PROGRAM P\n         NUMBER N,M\n         GO TO LOOP\n         ROUTINE   R3\nL1       ENDROUTINE\n         ROUTINE R1\n         A$5=\" ,\",\",\"\nL3       M=LENGTH(B)/4GTH(B)\n L2      ENDROUTINE\n         TEXTLONG=\"1=\",STRING(0,N),LINE,STRING(N)\n         B$3=\"12\"\n         SCAN A[\"=1\"]/,LOOP\n LOOP    READ TEXTLONG/,LOOP                                            SEQ73361\n         B=\n         SCAN C[A$2,\" \"]=A,S1$6,TEXTLONG$M,\"3\"\n         S1$N=\n         WRI  TE \" ,B\",A\n         ROUTINE R2\n* COMMENT 6\nX9       C=\",221-2+,1*-B\",\"\"\",STRING(0,M),A$M\nDONE     ENDROUTINE                                                     SEQ25671\n         IF(N UMERIC(L  INE))/LOOP\n         LINE=\n         N=M-M*N UMBER(A$2) \n* COMMENT 7\n         END\n" "2 02AA\n" "REFUSED 5 8\n" ≡ true
unfolding agrees
m067 = refl

m068 : agrees "         PROGRAM P\n         NUMBER N,M,I\n         ROUTINE R2\nLOOP     B=A,A$6\n         IF(9<=-  008  )/L1 ,L1\n L1      END)OUTIN E  \n X9      ROUTIN  E R1\n         GO TO L3\n L3      B=\" ,\",\"A\",B$4\n         B=\n         ENDROUTINE\n         ROUTINE R3\nDONE     ENDROUTINE\n* COMMENT 6\n         GOTO X9\n L2      END\n" "-0B-20\nA\nB\nA12-+BB1-0+A2 000B0A,1 ,A,AA- A2-B10A 2A\n,A,\n22+AA2A-+A10\n0\n\n" "REFUSED 5 6\n" ≡ true
unfolding agrees
m068 = refl

m069 : agrees "         PROGRAM LOTS\n         NUM B ER N,M,BA  CKSCAN  \n         LINE$N=\"A1\",ST*ING(M)\n         BACKSCAN=BACKSCAN+(((N))-M)\nL3       IF(BACKSCAN=M)/LOOP\n         S1$2=F\n         ROUTINE R1\nL1       F=                  (                                          SEQ05289\n* COMMENT 3\n L2      SCAN S1$BA  CKSCA  N[A ]/X9\nX9       ENDROUTINE\nDONE     EXIT\nLOOP     SCAN LINE[]/DONE,DONE\n         END\n" "2+ \nA1+,,,A-,- B01B A,AB+B,A++-A0110B-11A2 1\n,0 A,0-2AAA,\n0-A01B+-,+-+\nA0B1 A+-1 -2 10A1+1++ + , B-0+--B0BBB0A2\n2+10A20ABA,-\n-\n, -A12A001B0\n" "REFUSED 5 3\n" ≡ true
unfolding agrees
m069 = refl

m070 : agrees "         PROGRAM P\n         NUMB  ER N,M\nLOOP     S1=\"1 ,2 \"\n X9      SCAN B$N[\"1BB\",(TEXTLONG),\" (A\",(TEXTLONG$2),(LINE)]\nL2       IF  (NUMERIC(C))/ , DONE\n* COMMENT 9\nL3       B$ 2= C                                            SEQ98534\n* COMMENT 1\nL1       M=N\nDONE     END          $                                                 SEQ45993\n" " \n1000-AA-B 01" "REFUSED 5 7\n" ≡ true
unfolding agrees
m070 = refl

m071 : agrees "         PROGRAM LOTS                            (                      SEQ90600\n         NUMBER N,M,I,K9,COUNT\n\n         ROUTINE R2\n         N=NUMBER(C)\nL2       ENDROUTINE\n DONE    SCAN S1[B]=S1,G\n         SCAN G[(B$8388607)]/L1,L1\n         S1=S1,\")\"\n         ROU  T INE   R1\n         G=STRING(M)\nX9       PRINT \n         LINE  =B$  5,C  ,  STRING(I)\n         ENDROUTINE\n L1      M=0003/1/NUMBER(A)\nLOOP     ROUTINE R3\nL3       EN  D  ROUTINE\n         END\n" "2\nA+A2-1+21AB,1 2 1-0+-  -B,B,B1B0-100B,BA\n1A0-A+  A00B\n,\n\n-BAA 2+ BA01+A+B++AA0,A , -AA+-A, 1 1BA \nA12\nB" "REFUSED 5 1\n" ≡ true
unfolding agrees
m071 = refl

m072 : agrees "         PROGRAM LOTS\n         NUMBER N,M,I,K9,COUNT\n         RO  UTINE  R1\nL1       B=  L  INE\n DONE   XIF(NULL(B\n         ))/L3\nL2       SCAN S1$3[STRING(0,K9)]\nL3       ENDROUTINE\n* COMMENT 4\n X9      SCA N  B[(A$1  ),ST RI  NG (I),\"AB1\"]                       ,  SEQ58168\n         GO   TO X9\n LOOP    READ LINE                                                      SEQ47423\n                                                                        SEQ\n         BACKSCAN S1[(LINE),\"111B2\",(C$COUNT)]/X9,LOOP\n* COMMENT 9\n         M=2700\n\n         END\n" "BA 01B\nB+," "REFUSED 5 10\n" ≡ true
unfolding agrees
m072 = refl

m073 : agrees "         PROGRAM LOTS\n         NU MBER N,PROG  RAM                                            SEQ43271\n         SCAN C[(LINE$PROGRAM),(LINE$0)]/,DONE                          SEQ69031\n         ROUTINE R1                                                     SEQ62833\nL2       WRITE \"\"\"\n         LINE=STRING(PROGRAM),\"B\"\n L1      READ A/L1,L2\n         IF(0>+7)/L2\n        *ENDROUTIN\n           E\n         WR ITE(61) ST  RING(P  ROGRA M ,N) ,EXECUTE $0\n         IF(NULL(A))/,L3\nLOOP     SCAN S1[(A),(A$1)]=C,A$N                                       SEQ61538\nL3       RO9TINE R2\n         S1$002=EXECUTE,\"A22\"\n X9      READ C $PROGRAM/X9  ,X9  \n         IF(+7>-2)/X9,X9                                                SEQ52083\n         C=S1$PROGRAM\n         ENDROUTINE\n         R EAD   A/L3  ,LO OP\nDONE     C=\"B,\"\n* COMMENT 9\n         SCAN S1  [  (EXECUTE$0),  C,\"B1\"]/LOOP\n         A$5=A$N                                                        SEQ22154\n         END                                                            SEQ59412\n" "B2AA0 \n\nB2,0A+A0  1A-1201 AA-,,-220BAB2-,1B-1ABB\n22-221\n\n-++BB+-B 2B22,-A+A1BA1,-0BA0-10A1 1AAB-A\nBB1\n022A20+ +-++-BA 1 A+AA1 22,2,A 2-A12+AAA\n" "REFUSED 5 14\n" ≡ true
unfolding agrees
m073 = refl

m074 : agrees "         NUMBER   N,  NUMBERN,I,  K9,COUNT\nL3       G  = STRING(0  ,N)  \nNOOP     WRITE(61) STRING(I),LINE$N,G\nX9    .  WRITE LINE\nDONE     L INE=STRING(NUMBERN,NUMBERN  )\nL1       B=ST  RING(0,N),STRING(8  ,NU  M B ERN),STRI NG(N  )\n L2      END" "\n+00+-01AA,+-+   A, B0B1A2+A,2,+221-B +2B\n0B+12BAB 0+-\nB\n\n 12AB,\n,\n,, \n" "REFUSED 4 1\n" ≡ true
unfolding agrees
m074 = refl

m075 : agrees "         PROGRAM LOTS\n         NUMB ER N,M  ,I,K9,COUNT\n         PRINT(61) C,LINE,S1\n                                                                        SEQ\n         IF(NUMERIC(LINE))/L2,L2\n         S1$3=LINE,\"3\",LINE\n         BACKSCAN  C[(S 1$3) ]= / L2\n L1      EXECUTE R1\nX9       I  =(3008*M  )  \n         ROUTINE R1\n         READ A/LOOP                                                    SEQ15339\n L3     CPRINT\n        + B$CO\n        1UNT,\"\n         =/\"                                                            SEQ10412\n         READ   LI NE$2\nLOOP     GOTO LOOP                                                      SEQ89063\n        *ENDROUTIN\n         E\nL2       IF(NUMBER(S1)>NUMBER(LIE$I))/,X9                              SEQ99583\n         END                                                            SEQ33122\n" "A,0 +B2A+AB,\n\n0 0\n0 0\n" "REFUSED 11 0\n" ≡ true
unfolding agrees
m075 = refl

m076 : agrees "         PROGRAM LOTS\n         NUMBER NUMERIC\n         ROUTINE R1\nLOOP     IF(NUMERIC(C))/DON  E\nDONE     EXECUTE   R2\nL1       ENDROUTINE\n         ROUT INE R3\n         NUMERIC=NUMERIC/NUMBER(C)/NUMBER(A)\n         RETU  R N\nL2   *IF(NUMBE\n IGNOREDXR(TEXTLO\n        XNG)<=+5)\n         /,L2\n         ENDROUTINE\n         TEXTLONG$004=\"0 A1A1*1-,)*\",TEXTLONG,F                         SEQ36604\n         READ A$0/L3\n L3      F=\"AB1\",\"3 \"\n         A=\"2 AAAAAB,B, \"\n         B=STRING(NUMERIC),TEXTLONG,\"2AA\",NUMBER\n        1NUM E RIC=9*  150  3605+(+(N  UMERIC*  N  U  MERIC*(-  NU  MERI\n         C))* 70)\n         ROUTINE R2\n* COMMENT 5\n         N  UMBER  =\"AB,AB\"\nX9       ENDROUT  INE\n         END  \n" "-BAA,ABB 1-B+-A,AB--,A-0B0AB021 B 2--+A1\n 1B\n A,BAABA++,B\n-,- A1-  +A0\n" "REFUSED 5 10\n" ≡ true
unfolding agrees
m076 = refl

m077 : agrees "         PROGRAM P                                                      SEQ65047\n         NUMBER N,M,I,K9\n         N=88\n         BACKSCAN     TEXTLONG[STRING(N,I), S1]/L3,L3\nL3       BACKSCAN A[(C),F$M,S1,(C)]\n         R  O UTI N E R2\nDONE     LINE$2=C  \n         ENDROUTINE                                                     SEQ23935\n         ROUT  INE   R3\nL1       B=STRING(M),S1\nL2       B=A\n\nLOOP     E  NDRO UT  IN  E  \n         ROUTINE R1\nX9       BACKSCAN F$4[(C$N),A,S1]=\n* COMMENT 3\n        *SCAN C[(G$I),S1$\n        X5,STRING(M,N),(S\nIGNORED  1),(G)]/X9,X9\n         IF  (L ENGTH(LINE)<>-4  )/X 9,X9\n         BA C KSCAN =1  $6[\"3+(\",(A $K9),(F$3)]\n* COMMENT 7\n         ENDROUTINE\n         END\n" "\n2A +A-1 +2+A\n" "REFUSED 5 21\n" ≡ true
unfolding agrees
m077 = refl

m078 : agrees "         PROGRAM TEST1\n         NU  M  BER N,M,I,K9,C OUNT\n         R O UTIN E     R2\n L3      BACKSCAN A[(C)]/L3\n         F=\n         ENDRO  UTIN E                                                  SEQ46806\n         BACKSCAN A[S1]=C/DONE,LOOP\nDONE     ROUTINE R3                                                     SEQ08754\n L1      C=A,S1,\"A1A\",\",=\"\nX9       ENDROUTINE\n         READ C$0\n         WRITE(61) STRING(COUNT),STRING(0,K9)\n         IF(NULL(LINE))/DONE,LOOP\n         PRINT \"BAB, A22,B A \"\n                                                                        SEQ\n         GO TO LOOP\n         BACKSCAN S1$COUNT[(TEXTLONG$K9)]/L1\n         IF(NUMBER(LINE)<>-6)/LOOP\n         PRINT \n         LINE$I=A,C$5\n   \n         PRINT\n         B=  STRING(K9)\n         READ A\n         N=NUMBER(S1)\n         ROUTINE  R1\n         PRINT \" )=- -B-=/0$\"                                           SEQ54768\n         READ C/L2,L2\nL2       COUNT=  3\n         F=F$I\n         E  NDROUTINE\nLOOP     END" "" "REFUSED 11 0\n" ≡ true
unfolding agrees
m078 = refl

m079 : agrees "         PROGRAM LOTS\n         NUMBER  N,M,I,K 9,  CO  UNT \n         ROUTINE R2\n L2      B=F\nL3       ENDROUTINE\nLOOP     ROUTINE R1\n         C=B\n        1BACKSCAN TEXTLONG[STRING(I),(LINE$1),(C),(C$COUNT),(B),(F$1),\"3\n         \"]/DONE,DONE\n* COMMENT 1\nDONE     IF(0001> LENGTH(B)) /DON  E\n        1WRITE(61) \"\"\",STRING( K9),\nIGNORED  >  \"1\",\"/=\"\n         ENDROUTINE\n         A=C$0006\n         I=5920978*(COUNT+NUMBER(S1$0)*COUNT)*NUMBER(B)\n         PRINT \"2\"\nX9       ROUTINE R 3 \n L1      ENDROUTINE \n         COUNT=3171\n         END                                                            SEQ75866\n" "" "REFUSED 5 12\n" ≡ true
unfolding agrees
m079 = refl
