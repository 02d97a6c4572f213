-- Decks with their inputs and traces. Assumes nothing.
use Rattle.std.specs.Prelude.{true, ◌≡◌, refl}
use Rattle.vectors.specs.Trace.{agrees, agrees_whole}

m100 : agrees "         PROGRAM TEST1\n         NUMBER N\nL1       C=C\nL2       ROUTINE R1\nDONE     SCAN A[\"0-$\",(C)]/LOOP                                         SEQ68163\nLOOP    1ENDROUTIN\n         EX9       IF(N>8)/,X9\nL3       END\n" "A 21AB" "REFUSED 5 6\n" ≡ true
unfolding agrees
m100 = refl

m101 : agrees "         PROGRAM LOTS                                                   SEQ13451\n         NUMBE  R N,M                                                   SEQ55029\n X9      IF(NU LL(A))/L2\n         EXECUT=E R1\n* COMMENT 1\n         PRINT STRING  (N),A,B,B$M\n         GO TO L2\n         B=B$1\n         IF(6<=3)/X9,X9\n   \n         ROUTINE R2\n DONE    M=NUMBER(A)+LENGTH(B)/B)                                SEQ84252\n         ENDROUTINE\n         ROUTINE R1\n* COMMENT 7\n         N=N\nLOOP     IF(NUMERIC(B))/L3\n         WRITE B$N,\" \",B\nL3       ENDROUTINE\n         SCAN A$3[STRING(-0009,N),STRING(0,M),B,(B$3)]/,L1\n        CM=2  023/(M-N* ((  LENGTH(B)+LENGTH(B )+M  -490635 2+0+0261  6)\n         )*((+M)/1))\nL1       READ A\n* COMMENT 4\n         N  =-M                                                         SEQ25408\n         READ(60) A/L2\n         N=M\n         P RI N T( 61) STRING (-4,M) \n         B\u{1}CKSCAN A[STRING(M)]=\" \",A/L1\nL2       END\n" "" "REFUSED 5 12\n" ≡ true
unfolding agrees
m101 = refl

m102 : agrees "         PROGRAM P\nSTART    NUMBER   N, M\nL3       END\nX9       F=\"\"\",STRING(8,M)\n LOOP    B=STRING(9, N),B$001 , \"B$\"\nL2       L INE=A,\",\"\nDONE     PRINT \"\"\"\nL3       END" "" "REFUSED 4 4\n" ≡ true
unfolding agrees
m102 = refl

m103 : agrees "         PROGRAM LOTS\n         NUMBER N,M,I                                                   SEQ84915\nL2       SCAN B[(A$00)]/DONE,DONE\n         SCAN A[(B$0),\"2A,,BAAA,   \",\",$1$+\",(B)]=/X9,X9\nL1       I=M\n\n         A$3=B,STRING(-3,N)\n L3      I=1372\n DONE    I=I                                                            SEQ71086\n         WRITE \"AA\"\n LOOP    BACKSCAN A[STRING(0,N),A,(B),(B)]/LOOP,L2\n         A =\"2B1A,, BA1  \",B\n X9      B=B$4\n         SCAN A[A,B]=\"1A\"/LOOP, LOOP\n         B=STRING(M)                                                    SEQ42352\n         G  OTO LOOP\n        (B)\n         END\n" "" "REFUSED 5 17\n" ≡ true
unfolding agrees
m103 = refl

m104 : agrees "         PROGRAM P\n        1NUMBER N,M,I,K9,CO\n         UNT\n         B  $K9=\"A\"                                                     SEQ44353\n         COUNT=-875\n         PRINT C$2\n         ROUT IN  E   R3\n* COMMENT 2\nDONE    XPRINT B\n         ,C,B\nLOOP     READ B$4/LOOP,LOOP\n         GO TO LOOP\n         ENDROUTINE\n         ROUTI  NX9      BACKSCAN C[C$K9,(A),(B$3),(A$COUNT),(A$2),\"A\",(A)]=\"2\"/,X9\n         IF(7  <I)/X 9,L2\nL2       EXECUTE R2                                                     SEQ33665\n         ENDROUTINE\n         ROU TINE   R1\nL3       ENDROUTINE\n         GOTO L1\n        +BACKSCAN B-B$1,(A)  \n         ,(C ),(C),(C),B,(A)]\n L1      EXECUTE R3\n         SCAN A$M[(B),\"A\",STRING(I,N)1(B),(B)]=\"(\"/L1,L1\n         WRITE \n         E  ND \n" ",,2\n,0-\n" "REFUSED 3 14\n" ≡ true
unfolding agrees
m104 = refl

m105 : agrees "9         PROGRAM P\n         NUMBER N,M,I\n X9      B=\"A\"\nL3       B=B$M\nLOOP     A=A$4,A\nDONE     IF(M<7\u{7f}/,X9\n L2      I=I\nL1       END\n" "" "REFUSED 5 1\n" ≡ true
unfolding agrees
m105 = refl

m106 : agrees "         PROGRAM LOTS\n         NUMBER ROUTINE\n                                                                        SEQ\nX9       B=9S1  $ROUT IN  E \nL3       END=\nLOOP     B=\nDONE     B ACKSCA N EN  D[]/LOO P,DONE\nL2       READ(60) S1/,L1\nL1       END\n" "\n ,0\n" "REFUSED 5 4\n" ≡ true
unfolding agrees
m106 = refl

m107 : agrees "         PROGRAM TEST 1\n         NUMB ER N,M,I  ,K9\nL1       K9= N- 3-  9  9999999 999/10\nDONE     IF(L  ENGTH(S1)>=-3 )/LOOP\n         B=\"1\",\"\"\"\n         PRINT(61) A,STRING(0,M)\nL2       ROUTINE R1\n         WRITE \n         READ B/L3\n         READ   C\n         PRINT S1$M\nL3       ENDROUTINE\nX9       K9=3+M*0/803\n        1BACKS\n        1CAN B\n        1$I[(S\n       +1$I),\n        CSTRIN\n        CG(I,M\n        +),(S1\n        +)]/,D\n         ONE\n* COMMENT 3\n        XSCAN C[(B$1),S TRING( I),( S 1),(S1)]=  STRING  ( I,  I  ),S1/,\n           LOO  P\nLOOP     K9=LENGTH(C)*176-NUMBER(C)                                     SEQ39019\n         IF (-1  <=-2)/LOOP,DONE\n         READ   A/,  L1\n         END\n" "\nAA-110\nA++-+1\n,B0\n \n+++-22 -1,AB\n\n1A-" "REFUSED 5 3\n" ≡ true
unfolding agrees
m107 = refl

m108 : agrees "         PROGRAM P\n         NUMBER N,M\n         L INE $5=A\n         WRITE \"B1\",B\n         P  RINT STRING(-6,  N),A\nL3       BACK  SCAN C[(A$1)]=B$0/D  ONE\n         EXIT\nL2       RO UTINE R1\n         BACKSCAN A[\",AA\",B]=S1,STRING(-5,M)/LOOP,LOOP                  SEQ64824\n         IF(N  UMERIC(C)  )/L  OOP,L  OOP                               SEQ61551\n         PRINT STRING(-3,N)\nLOOP     ENDROUTINE\n DONE    IF(NUMERIC(LINE))/L3,DONE                                      SEQ85609\n         M=GTH(LINE)                                                SEQ03262\nL1      XA=  C$3,\",2BB1AA\nIGNORED  AAA 2\"                                                         SEQ27450\n         M=-M\n         LINE=A$2\nX9       B=A,B,S1$5\n         S 1 $ 3=LINE,\"=\"\n        XEND\n" "\n\nA0AA-A\nBA+A-B+-++1A-A,-B0+2BBAABB1A1A-A A A2AAB\n \n+BA1,A,AA ,1\nAAA\nA0A\n" "REFUSED 5 14\n" ≡ true
unfolding agrees
m108 = refl

m109 : agrees "         PROGRAM LOTS\n         NUMBER N                                                       SEQ68442\n LOOP    LINE=\"22\",LINE,\"1\"\n\n+3       TEXTLONG=\",A\"\nL2       B=S1$4,C,S1\nX9      C$0\nDONE     N=( 1*2)  \nL1       END\n" "AA00021,-+-2\n+--2B21A12A1\n-+ A2A0,  0,\n2A+B-A2B 0,A0,022A2B1 -,+A22--,--0A2+ 12\n\n-1,1AAAAA,-,\n+B, B,\n\n" "REFUSED 5 5\n" ≡ true
unfolding agrees
m109 = refl

m110 : agrees "         PROGRAM TEST1\n         NUMBER N\n         SCA  N   B[(A )]  =B/LOO  P,L3\n   \n         N=N UMB  ER(A )*N/  N\n         IF(N<=2)/L3,LOOP\n         ROUTINE R 1                                                    SEQ36645\nX9       A=BADONE B    B=B  ,\"-)\"                                                     SEQ11654\nL2       ENDROUTI  NE\n         SCAN A[(B$3),A$N]  = B  , \"2\",A$5 ,B\nL3       SCAN B[(A),(A),\",A\"]/L3\n         IF(-4<N) /  L1\n         I F(-5< N) /LOOP,LO  OP  \nL1       A=\"B2\"\n         A=\"2A\",BAA\nLOOP     IF(NULL(B))/,L3\n         BACKSCAN A[]=\"A\"/LOOP,LOOP\n         END\n" "B,01AB12+21A+211B2,AA,1BAAAA-B-- 1+1A102\n0\nAA0 AA\nA-A\nA\n0 A-A212,BAB-1-+21++2A1,B2012+-2-0AAA+A2\n,,-- A+2,BA0 ++A2-B0-0A1,1- A++,0++ -2A0\n2 A\n" "REFUSED 3 8\n" ≡ true
unfolding agrees
m110 = refl

m111 : agrees "         PROGRAM TE ST1\n         N UMBER N  ,  M,  I\nDONE     N=(LENGTH(C)-N*(N*(1+1)/N/10)*M*6-5342058*1-9+459)\nL1       IF(NUMERIC(B  ))/L2\nLOOP     REA D(60) C/LOOP\n         GO  TO    L3                                                  SEQ20992\nL3       N=1                                                            SEQ01395\n         IF(N=N)/X9,DONE                                                                Z\nX9       IF(NUMERIC(C))/L1,LOOP                                         SEQ17989\nL2       END" "" "REFUSED 3 8\n" ≡ true
unfolding agrees
m111 = refl

m112 : agrees "         PROGRAM P\n         NUMBER N\n        XWRI TE(61 )  \"A\n         \"\nX9       A$N=STRING(N),S1,B\n* COMMENT 2\n         C= C  ,S1                                                      SEQ44486\n         N=-(0  )  + N\n         READ(60) A/LO OP\n         PRIN  T  (61) \"\"\",\"A\",C$6\n         N=N+N\n    ]    E XECUTE R1\n         SCAN B[B$N,\"1A,, 2\",(S1$3),A$N]=\"B1 \"/,LOOP\nLOOP     WRITE C,S1,\",2$,)2)+$+1 \",\"1AB\"                                SEQ33929\n         ROUTINE R1\nL3       C=STRING(0,N)\n* COMMENT 2\nL2     2\"\nDONE     ENDROUTINE                                                     SEQ46546\nL1       N=NU MBER(S 1)\n         SCAN S1[(A$3),(B$3),STRING(-0,N),STRING(-2,N),(B$N),(B),(B)]\n         END\n" "" "REFUSED 5 12\n" ≡ true
unfolding agrees
m112 = refl

m113 : agrees "         PROGRAM P                                                      SEQ99591\n         NUMBER N,M,I,K9\n         N=LENGTH(C)\nLOOP     I= M-K9+(  NUMBER(B$  2)-2 785*LENGTH(C))*NUMBER(B)\n         IF(NUMBER(C)=N)/L1,=L2\nDONE     PRI NT(61) A,\"3 \",\"*\"\n         C=B,STRING(M)\n* COMMENT 9\n        *PRINT(61) \"ABA2BB\n         2A ,AA\",\"++\"\nL3       READ C$K9/L1\n         A=A,C\n         ROUTINE R1\n   \n         IF(NULL(C))/,X9\n         I=+(LENGTH(A))-(4791)\n         PRINT S  TRING(0000,N)                                         SEQ21154\nX9       ENDROUTINE\n         I=I*M-N\nL2       B$0=\"\"\"\n L1      IF(NUMBER(B)>=9)/,L3\n         READ C$3/,DONE\n         END\n" "" "REFUSED 5 5\n" ≡ true
unfolding agrees
m113 = refl

m114 : agrees "        *PROGRAM\n          LOTS\n         NUMBER N, M\n        1BACKSC A  N TEXT  L\n IGNOREDC ONG$  6[  \" A,,AA \n        XA2A A\",(C$2), (S1 )\n         ]/L2,L2\n         SCAN LINE[(S1),LINE,B,B]=\"2\",B$6,S1$M/DONE,X9\n DONE    EXECUTE R1                                                     SEQ92225\n         LINE=\n         ROUTINE R2\n LOOP    ENDROUTINE\n         ROUTINE R1\n         SCAN S1$2[(C),(TEXTLONG)]/,L1                                  SEQ91068\n         M=-2+(NUMBER(LINE$2)*2+M)*(NUMBER(C)*NUMBER(TEXTLONG)*N)\n L1      BAC  KSC  AN B[C]=\",A2 B2BA211A\",\" ABB \"/,L1\n         ENDROUTINE\nX9       SCAN LINE$0[]/DONE\n         EXECUTE R2\n         SCAN A$N[(B),LINE]=C$N,S1,S1,A\n        1SCAN B[  A,TEXTLO  NG,(S1$0),(LINE$  2) ,  TEX  T LO NG$M  ,TEX\n         TL ONG$3,(A$0)]/L 2,X9  \n* COMMENT 5\n         B$3=\"1\",C\nL2       ROUTINE R3\n L3      PRINT C,A,\"A\",STRING(M,M)                                     SEQ78976\n         E ND  R OU  T INE  \n        1S1=B,B$0,LIN\n         E,B$N\n         E ND\n" "-AA2-+\n" "REFUSED 5 26\n" ≡ true
unfolding agrees
m114 = refl

m115 : agrees "         PROGRAM LOTS\n         NUMBER N,M,I,K9,COUNT\n         BACKSCAN S1[(B)]=F,B\n         COUNT=6003984*LENGTH(TEXTLONG)*M*NUMBER(B$4)\n LOOP    COUNT=-(K9*N)*K9\n         PRINT C$5,STR ING(M),\"1A \"\nDONE     SCAN TEXTLONG$5[(B),STRING(0,COUNT)]/,L3\n         ROUTINE R1\n         SCAN  A[C]\n* COMMENT 0\nX9       WRITE \"0\",A$2,STRING(9,N)\n         ENDROUTINE9         IF(-2<>+4)/,L2\n         IF(+5>K9)/LOOP,L3\nL1       F$1=\" A,ABAB,1,B \"\n         EXIT                                                           SEQ17502\n         READ B/ LOO P\n         C=STRING(6,COUNT),\"$)\",TEXTLONG,S1\nL3       IF(NUMERIC(A))/L2,L1\n         K9=-(1*K9)\n         TEXTLONG=S1$0,B\nL2       E ND\n" "AA0A2A\n,0-- 11A2A2+1A+-2,,2,A,B-B A-2-ABA02-A ,\n1- +1+\n,\n\nA00B2A0A,-A-,10-,B --0B,12 B02-2A-B01A 0\n+++++0 A,+A1-21 +AA A A-, 0 ,221100+11+ \n\n" "REFUSED 5 12\n" ≡ true
unfolding agrees
m115 = refl

m116 : agrees "         PROGRAM LOTS\nSTART   1NUMBE\n        +R N,M\n        C,I,K9\n        +,COUN\n         T\n L1      S1=A$5,\"A\"\nL2       RO  UTINE   R1                                                 SEQ76922\nLOOP     BACKSCAN S1[C,(F$0)]=C,B$2,F\nDONE     ENDROUTINE\nL3       P  RINT(61)  STRING(  M ),STRING(N),TE(TLON G                  SEQ71669\nX9       END\n" "A\n+A--101-A+-0\n0\n100BA BAB0A2\nA,,,B-\n,0 \n\n" "REFUSED 5 11\n" ≡ true
unfolding agrees
m116 = refl

m117 : agrees "         PROGR A M LOTS\nSTART    \" U  MBER N,M,I ,K9,C  OUNT\nX9       RE  AD C/L3  \n         M=I\n         B=A \n         IF(NUMERIC(A$0))/X9,X9\nL1       WRITE C$I,C\n   \n         SCAN    S1[C$4,\"2\",(A),\"/=B0B,)-0/* \",(A $3),(B) ,(C)]  /LOOP\nL3       BACKSCAN S1[\"\"\",(A$2),(A),\"$\"]\n         A=B\n         ROUTINE R1\nL2       N=((NUMBE R(B))*I)\n         RETURN\n\nDONE     P  RINT S1  $0\n         ENDROUTINE\n         SCAN C[(A),\"A1B211ABAAB1\"]=C,B\n         GO TO L3\n         SCAN C[B,B,(B$K9),(B),(S1$0)]/X9,L3\n         M  =6 66*M  +LE  N  GTH(A)\n LOOP    END\n" "" "REFUSED 5 2\n" ≡ true
unfolding agrees
m117 = refl

m118 : agrees "  POGRAM TEST1\n         NUMBER N,M,I\n         R EAD A\n         IF(0>=+0)/X9,X9\nDONE    /M =  LENGT H  (A  ) \nL3       IF(NUMBER(A$N)<I)/DONE\nX9       SCAN B$5[STRING(0,N)]=A,B/L3\nLOOP     WRITE \nL2       BACKSCAN A[(B),A$N,(B$01)]=STRING(6,M),A/DONE,DONE\n L1      I=+N\n         END\n" "1A0\n" "REFUSED 4 1\n" ≡ true
unfolding agrees
m118 = refl

m119 : agrees "         PRO GRAM  LO  TS \n         NUMBER N,M,I,K9\n         READ F/X  9\n X9      ROUTINE R1\n* COMMENT 3\nL2       TEXT  LONG=B\nL1       ENDROUTINE\n         GO TO L3                                                       SEQ18867\n         B A CKSCAN B$3[S  TRING(0,M),B,F  ,(T  EX TLO  NG$2)]=/L  3,L 3\n         ROUTINE R2\n         SC AN   C$5[(S1)]=F$M,\"=(\",F/,LOOP\n         K9=2-103*(N)\n        *C$0=S1,F\n        *,\",2\",\"                                                        SEQ13713\n         ,AA1\"\n LOOP    I=-K9                                                          SEQ47916\n         ENDROUTINE\n         TEXTLONG=\"30\"\n         GOTO L3\n         BACKSCAN A[F$4,\" \"]/L3\nDONE     IF(8<3)  /DO NE,  X9\n        -SCAN S1[(F),\" ,A1A2 1B1A \"]=\"A\",\",\",A,B/X9,X9\n         SCAN A$K9[LINE,(F)]=STRING(M)/,L3\n         IF(9>=+9)/,L3\n         EXECUTE R2\n L3      E  ND\n" " B BA--1-A++010BB0A BA-A0,1,0,20+AA2AB+2\n\n" "REFUSED 5 22\n" ≡ true
unfolding agrees
m119 = refl
