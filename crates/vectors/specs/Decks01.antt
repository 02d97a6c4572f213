-- Decks with their inputs and traces. Assumes nothing.
use Rattle.std.specs.Prelude.{true, ◌≡◌, refl}
use Rattle.vectors.specs.Trace.{agrees, agrees_whole}

m020 : agrees "         P  ROGRAM  LOTS  \n         NUMBER   N\n                                                                        SEQ\nL1       BAC  S CAN   B[]/D  ONE,L3\n        +WRIT E \"\n     A   A1A\",\" \"\nL2       WRITE(61) C,B\n         LINE=\"AA\"\n         N=-0\n         IF(4<+5)/,L1                                                   SEQ49931\n* COMMENT 6\nX9       ENDROUTINE\n         ROUTINE R1\nLOOP     LINE=B$N\nX9       ENDROUTINE\n DONE    BACKS  CAN S1 $N[\"2)B- \", STR ING(N)] /L1 ,DONE\nL3       END                                                            SEQ87408\n" "A2-AA1-, B00+,0A-2+0 ,B B0A+,0B1B01 ,A01\n" "REFUSED 5 4\n" ≡ true
unfolding agrees
m020 = refl

m021 : agrees "         P  ROGRAM  P\n         N UMBER  N,M\nL3       IF(NULL(F)  )/,LOOP  \nL2       PRI NT STRI NG( M  )\n L1      WRITE \"A\"\n         IF(NUMBER(G)>=4)/LOOP\n         READ(60) F$N                                                   SEQ13409\nDONE     N=(6+M)\nX9       PRINT\n        *SCAN   T  EXTL ONG[T EXT LONG  ,T  EX  TLON  G$2]=\"B,2\",LINE$2,\n         \"B \",S1$6\nLOOP    +SCAN  C[LI  NE$M ,F  $4,\"3A)-A-1 (213\",(  B$2), (A)]=\"2       12,\"\n         WRITE \"$1A0(\"\n         F=\"-\",\"A \",STRING(M),S1$3\n         END\n" "A,B\n22 BA--A 2AA\n12B,0 12 2+---A+B2AA+AB2B121AB 1 ++A,+  \nBBAA+B-0212 \n" "REFUSED 5 12\n" ≡ true
unfolding agrees
m021 = refl

m022 : agrees "         PROGRAM LOTS\n         NUMBER N\n* COMMENT 6\n         BACKSCAN  S1$N[ ]/,L2                                          SEQ73763\n         PRIN  T \n        SCAN B[STRING(1,N),A,(C),(A),\"-2\",(S1$0),STRING(N)]=A$0005,B/L1\nL1       N=-N\n         SCAN A[S TRI  NG(N ),ST RING(N,N)]/LOOP  \n         ROUTINE R1\n         A$5=\n         READ B/L3,L3\n         GOTO  D  ON  E                                                 SEQ59566\n DONE    ENDROUTINE\n         ROUTINE R2\n         SCAN  C[(B$2),(A)  ,(B$1) ]=B/L3\n L3      IF(LENGTH(B)<>+3)/  L3,L3 \n         READ B/L3,L3\n         SCAN B[(A  $3),(S 1$0)]/L3,  L 3\n         ENDROUTINE                                                     SNQ49810\n* COMMENT 5\nL2       ROUTINE R3\nX9       ENDROUTINE\nLOOP     BACKSCAN A[ STR  IN G(0,N),( B)] =STR I  NG(  N,N)/L1,L2       SEQ46740\n         END\n" "" "REFUSED 5 6\n" ≡ true
unfolding agrees
m022 = refl

m023 : agrees "         PROGRAM P\n         NUMBER WRITE,M,I,K9,COUNT\n         READ(60) S1/,L2\n         S1=EXIT,EXIT\n         EXIT=B ,S1$M\n         EXECUTE R1\n X9      BACKSCAN A[B,\"\"\",STRING(WRITE),\"A\"]/L3\n         SCAN EXIT$4[(B),STRING(3,I),S1]=\"1\"\n         READ EXIT\nL2       ROUTINE R1\nDONE     ENDR OUTIN  E\n         IF(I=2)/,L 2\n         SCAN EXIT$4[A,(A),(S1$2),(S1),(S1$1),\",,,\",\",\"]\n         SCAN EXIT$4[A,(A),(S1$2),(S1),(S1$1),\",,,\",\",\"]\nL1      +SCAN S1[B$6,\"   \",\" \",EXIT,(EXIT$1),\",\",(EXIT$K9)]=S1,STRING(COSEQ59117\n         UNT)/L3\n        1BACKSCAN S1$5[(EXIT$K9),A$COUNT,(A)]=\"  +\",A$K9,STRING(K9),\"B\"/\n        L3\n         SCAN B$7[EXIT]/LOOP,L1\n LOOP    I=M\n L3      E  ND\n" "-AA0,2\n" "REFUSED 5 17\n" ≡ true
unfolding agrees
m023 = refl

m024 : agrees "         PROGRAM TEST1\nSTART    NUMBER N,M,LENGT H,K9,  C  OUNT\n L2      SCA  N A$  6 [(C),S1, (S 1),(B$0),(=B$3\n         EXECUTE R2\n         WRITE   \n         READ(60) C/L2,L2\n         M=LENGTH/LENGTH-(NUMBER(C)+6927455)\n         ROU  TINE R2\nDONE     S1=B,  \"\"\",\"2\"\n LOOP    IF  (NUMBER(S  1$COUNT)  <=-5)/LO  OP ,L1\nL1       ENDROUTINE\n         RO UT  INE R3\nX9       EN  DRO UTINE\n         M=(N)\n         READ(60) NUMERIC/L2,L2\n         ]OUTINE R1\nL3       ENDROUTINE\n         WRITE \n         READ C$LENGTH/L2\n         SCAN C[\"-\",(S1$1),(S1),\"$\",NUMERIC,(S1),A$4]=A,\",\"\n         IF(+2>=LENGTH(C))/,L2\n         NUMERIC=A  \n        END\n" "AB1\n\nB2B221\n+1+B10B 0,2+1+  -AA,-+BA++2B  +BA-A,A++-\n\nAB0A+B\nB\n\n" "REFUSED 5 3\n" ≡ true
unfolding agrees
m024 = refl

m025 : agrees "         PROGRAM P\n         NUMBER N,STRING,I\n X9      S1=A,\"2,A\"\n         GOTO X9\n\nL3       READ S1$0/,L1\n        IF(NUMBER(C$0)<=I)/LOOP\nLOOP     PRINT(61) READ$N,READ\n   14\nL1\"      I=N*0\n DONE    A=READ,C\n L2      END\n" " \n\n,B,+B-\n0A, A+AAAAB-,1A  ,-02A1-21+++21A2AB+ -,1\n" "REFUSED 5 7\n" ≡ true
unfolding agrees
m025 = refl

m026 : agrees "         PROGRAM LOTS\n         NUMBER N,M\n L2      READ TEXTLONG\nX9       A=F$N\nL1       B$M=\nDONE     I F A( N>M)/LOOP\nLOOP     T EXT L ONG=  \"B\"                                              SEQ18213\n         N=M-M-1623-NUMBER(LINE)*N-M\nL3       END\n" "02 A1+\n2\nB,A0B1\n+,1\n" "REFUSED 5 6\n" ≡ true
unfolding agrees
m026 = refl

m027 : agrees "      ,  PROGRAM P\n         NUMBER N,M\nL2       PRINT(61) \"A2\",\"AAA\",STRING(N)                                 SEQ95817\n         ROUTINE R2\nL3       A=A$0006\n         GO T  O L1\n\n         BACK  SCA  N A$4[(LINE$1),C]=/L3,L1\n* COMMENT 1\n         A $ 3 =STR  ING(-7,M),B\nL1      +ENDROUT\n         INE\n        +BACKSCAN A[STRING(                                             SEQ33092\n         7,N)]=\"\"\",A/,L2\n         IF(NUMERIC(C))/LOOP\n         ROUTINE R1\nX9       PRINT(61) C\n         BACKSCAN LINE[STRING(M)]/,X9\n         M=3\n         GOTO X9\n         ENDROUTINE\n         LINE=\" 11\"\n         M=M/N\n         BACKSCAN C[\"A(-(0\",C,(LINE)]/  L2\n         R E AD A/LO OP\n* COMMENT 0\n         READ (60) C/L2,L OOP\nLOOP     ROUTINE R3\n         IF(NUMERIC(LINE$6))/DONE\nDONE     E  NDROUTINE\n         S1=B,B,\"BA\"                                                    SEQ22717\n         I F(4->=NUMBER(LINE$0))/L2 ,LOO  P\n         END\n" "20AA0 2,A2,10,A11-2-220AAA, ,AAA-+  A+ ,\n" "REFUSED 5 1\n" ≡ true
unfolding agrees
m027 = refl

m028 : agrees "         PROGRAM LOTS\n        NUM  BER   N, M,I\nL2       R  OUTINE R 1\n         IF(2<=LENGTH(S1))/L1\nL1       SCAN A[(B$3),(C$N)]=/L1,X9\nX9       ENDROUTINE\n        IF(+0005<=N)/L2,DONE\n         A  =\n         BACKSCAN A[(S1$2),(S1),(C),(S1)]=C/L2,L3\nDONE     GOTO L3\nL3       READ A/LOOP\nLOOP     END\n" "\nB2+\n" "REFUSED 5 2\n" ≡ true
unfolding agrees
m028 = refl

m029 : agrees "         PROGRAM LOTS\n         NUMBER N,M,I,K9,COUNT\n L3      ROUTINE R2                                                     SEQ72050\n\nL2       B=\"2\",B,C\nL1       ENDROUTI NE\n LOOP    RO UTI  NE R1\n         WRITE C,\",,B(11 11A1A\"\n X9      K  9=M\n         B=C,B$6,\"1\",B$COUNT\n         IF( N U  M  ERI C(B ))/,X  9\n        CENDROUTIN\n         E                                                              SEQ84985\n DONE    IF(NUMERIC(C))/DONE,DONE                                       SEQ93063\n         END\n" ",1+++-\n,\n+ 01A,0,0-1210012001  1-1 A 2+A-+A-A--20\n-A ,11A0B0A-  2A0,A , -, -A2-A A12+ABBA " "step 1: n=0 notes=0 split=- trials=0 in=0 out=0 state=running next=7 held=[] numbers={N:0,M:0,I:0,K9:0,COUNT:0} strings={B:,C:}\nstep 2: n=0 notes=0 split=- trials=0 in=0 out=0 state=running next=14 held=[] numbers={N:0,M:0,I:0,K9:0,COUNT:0} strings={B:,C:}\nstep 3: n=0 notes=0 split=- trials=0 in=0 out=0 state=running next=14 held=[] numbers={N:0,M:0,I:0,K9:0,COUNT:0} strings={B:,C:}\nstep 4: n=0 notes=0 split=- trials=0 in=0 out=0 state=running next=14 held=[] numbers={N:0,M:0,I:0,K9:0,COUNT:0} strings={B:,C:}\nstep 5: n=0 notes=0 split=- trials=0 in=0 out=0 state=running next=14 held=[] numbers={N:0,M:0,I:0,K9:0,COUNT:0} strings={B:,C:}\nstep 6: n=0 notes=0 split=- trials=0 in=0 out=0 state=running next=14 held=[] numbers={N:0,M:0,I:0,K9:0,COUNT:0} strings={B:,C:}\nstep 7: n=0 notes=0 split=- trials=0 in=0 out=0 state=running next=14 held=[] numbers={N:0,M:0,I:0,K9:0,COUNT:0} strings={B:,C:}\nstep 8: n=0 notes=0 split=- trials=0 in=0 out=0 state=running next=14 held=[] numbers={N:0,M:0,I:0,K9:0,COUNT:0} strings={B:,C:}\nstep 9: n=0 notes=0 split=- trials=0 in=0 out=0 state=running next=14 held=[] numbers={N:0,M:0,I:0,K9:0,COUNT:0} strings={B:,C:}\nstep 10: n=0 notes=0 split=- trials=0 in=0 out=0 state=running next=14 held=[] numbers={N:0,M:0,I:0,K9:0,COUNT:0} strings={B:,C:}\nstep 11: n=0 notes=0 split=- trials=0 in=0 out=0 state=running next=14 held=[] numbers={N:0,M:0,I:0,K9:0,COUNT:0} strings={B:,C:}\nstep 12: n=0 notes=0 split=- trials=0 in=0 out=0 state=running next=14 held=[] numbers={N:0,M:0,I:0,K9:0,COUNT:0} strings={B:,C:}\nstep 13: n=0 notes=0 split=- trials=0 in=0 out=0 state=running next=14 held=[] numbers={N:0,M:0,I:0,K9:0,COUNT:0} strings={B:,C:}\nstep 14: n=0 notes=0 split=- trials=0 in=0 out=0 state=running next=14 held=[] numbers={N:0,M:0,I:0,K9:0,COUNT:0} strings={B:,C:}\nstep 15: n=0 notes=0 split=- trials=0 in=0 out=0 state=running next=14 held=[] numbers={N:0,M:0,I:0,K9:0,COUNT:0} strings={B:,C:}\nstep 16: n=0 notes=0 split=- trials=0 in=0 out=0 state=running next=14 held=[] numbers={N:0,M:0,I:0,K9:0,COUNT:0} strings={B:,C:}\nstep 17: n=0 notes=0 split=- trials=0 in=0 out=0 state=running next=14 held=[] numbers={N:0,M:0,I:0,K9:0,COUNT:0} strings={B:,C:}\nstep 18: n=0 notes=0 split=- trials=0 in=0 out=0 state=running next=14 held=[] numbers={N:0,M:0,I:0,K9:0,COUNT:0} strings={B:,C:}\nstep 19: n=0 notes=0 split=- trials=0 in=0 out=0 state=running next=14 held=[] numbers={N:0,M:0,I:0,K9:0,COUNT:0} strings={B:,C:}\nstep 20: n=0 notes=0 split=- trials=0 in=0 out=0 state=running next=14 held=[] numbers={N:0,M:0,I:0,K9:0,COUNT:0} strings={B:,C:}\nstep 21: n=0 notes=0 split=- trials=0 in=0 out=0 state=running next=14 held=[] numbers={N:0,M:0,I:0,K9:0,COUNT:0} strings={B:,C:}\nstep 22: n=0 notes=0 split=- trials=0 in=0 out=0 state=running next=14 held=[] numbers={N:0,M:0,I:0,K9:0,COUNT:0} strings={B:,C:}\nstep 23: n=0 notes=0 split=- trials=0 in=0 out=0 state=running next=14 held=[] numbers={N:0,M:0,I:0,K9:0,COUNT:0} strings={B:,C:}\nstep 24: n=0 notes=0 split=- trials=0 in=0 out=0 state=running next=14 held=[] numbers={N:0,M:0,I:0,K9:0,COUNT:0} strings={B:,C:}\nstep 25: n=0 notes=0 split=- trials=0 in=0 out=0 state=running next=14 held=[] numbers={N:0,M:0,I:0,K9:0,COUNT:0} strings={B:,C:}\nstep 26: n=0 notes=0 split=- trials=0 in=0 out=0 state=running next=14 held=[] numbers={N:0,M:0,I:0,K9:0,COUNT:0} strings={B:,C:}\nstep 27: n=0 notes=0 split=- trials=0 in=0 out=0 state=running next=14 held=[] numbers={N:0,M:0,I:0,K9:0,COUNT:0} strings={B:,C:}\nstep 28: n=0 notes=0 split=- trials=0 in=0 out=0 state=running next=14 held=[] numbers={N:0,M:0,I:0,K9:0,COUNT:0} strings={B:,C:}\nstep 29: n=0 notes=0 split=- trials=0 in=0 out=0 state=running next=14 held=[] numbers={N:0,M:0,I:0,K9:0,COUNT:0} strings={B:,C:}\nstep 30: n=0 notes=0 split=- trials=0 in=0 out=0 state=running next=14 held=[] numbers={N:0,M:0,I:0,K9:0,COUNT:0} strings={B:,C:}\nstep 31: n=0 notes=0 split=- trials=0 in=0 out=0 state=running next=14 held=[] numbers={N:0,M:0,I:0,K9:0,COUNT:0} strings={B:,C:}\nstep 32: n=0 notes=0 split=- trials=0 in=0 out=0 state=running next=14 held=[] numbers={N:0,M:0,I:0,K9:0,COUNT:0} strings={B:,C:}\nstep 33: n=0 notes=0 split=- trials=0 in=0 out=0 state=running next=14 held=[] numbers={N:0,M:0,I:0,K9:0,COUNT:0} strings={B:,C:}\nstep 34: n=0 notes=0 split=- trials=0 in=0 out=0 state=running next=14 held=[] numbers={N:0,M:0,I:0,K9:0,COUNT:0} strings={B:,C:}\nstep 35: n=0 notes=0 split=- trials=0 in=0 out=0 state=running next=14 held=[] numbers={N:0,M:0,I:0,K9:0,COUNT:0} strings={B:,C:}\nstep 36: n=0 notes=0 split=- trials=0 in=0 out=0 state=running next=14 held=[] numbers={N:0,M:0,I:0,K9:0,COUNT:0} strings={B:,C:}\nstep 37: n=0 notes=0 split=- trials=0 in=0 out=0 state=running next=14 held=[] numbers={N:0,M:0,I:0,K9:0,COUNT:0} strings={B:,C:}\nstep 38: n=0 notes=0 split=- trials=0 in=0 out=0 state=running next=14 held=[] numbers={N:0,M:0,I:0,K9:0,COUNT:0} strings={B:,C:}\nstep 39: n=0 notes=0 split=- trials=0 in=0 out=0 state=running next=14 held=[] numbers={N:0,M:0,I:0,K9:0,COUNT:0} strings={B:,C:}\nstep 40: n=0 notes=0 split=- trials=0 in=0 out=0 state=running next=14 held=[] numbers={N:0,M:0,I:0,K9:0,COUNT:0} strings={B:,C:}\nstep 41: n=0 notes=0 split=- trials=0 in=0 out=0 state=running next=14 held=[] numbers={N:0,M:0,I:0,K9:0,COUNT:0} strings={B:,C:}\nstep 42: n=0 notes=0 split=- trials=0 in=0 out=0 state=running next=14 held=[] numbers={N:0,M:0,I:0,K9:0,COUNT:0} strings={B:,C:}\nstep 43: n=0 notes=0 split=- trials=0 in=0 out=0 state=running next=14 held=[] numbers={N:0,M:0,I:0,K9:0,COUNT:0} strings={B:,C:}\nstep 44: n=0 notes=0 split=- trials=0 in=0 out=0 state=running next=14 held=[] numbers={N:0,M:0,I:0,K9:0,COUNT:0} strings={B:,C:}\nstep 45: n=0 notes=0 split=- trials=0 in=0 out=0 state=running next=14 held=[] numbers={N:0,M:0,I:0,K9:0,COUNT:0} strings={B:,C:}\nstep 46: n=0 notes=0 split=- trials=0 in=0 out=0 state=running next=14 held=[] numbers={N:0,M:0,I:0,K9:0,COUNT:0} strings={B:,C:}\nstep 47: n=0 notes=0 split=- trials=0 in=0 out=0 state=running next=14 held=[] numbers={N:0,M:0,I:0,K9:0,COUNT:0} strings={B:,C:}\nstep 48: n=0 notes=0 split=- trials=0 in=0 out=0 state=running next=14 held=[] numbers={N:0,M:0,I:0,K9:0,COUNT:0} strings={B:,C:}\nstep 49: n=0 notes=0 split=- trials=0 in=0 out=0 state=running next=14 held=[] numbers={N:0,M:0,I:0,K9:0,COUNT:0} strings={B:,C:}\nstep 50: n=0 notes=0 split=- trials=0 in=0 out=0 state=running next=14 held=[] numbers={N:0,M:0,I:0,K9:0,COUNT:0} strings={B:,C:}\nstep 51: n=0 notes=0 split=- trials=0 in=0 out=0 state=running next=14 held=[] numbers={N:0,M:0,I:0,K9:0,COUNT:0} strings={B:,C:}\nstep 52: n=0 notes=0 split=- trials=0 in=0 out=0 state=running next=14 held=[] numbers={N:0,M:0,I:0,K9:0,COUNT:0} strings={B:,C:}\nstep 53: n=0 notes=0 split=- trials=0 in=0 out=0 state=running next=14 held=[] numbers={N:0,M:0,I:0,K9:0,COUNT:0} strings={B:,C:}\nstep 54: n=0 notes=0 split=- trials=0 in=0 out=0 state=running next=14 held=[] numbers={N:0,M:0,I:0,K9:0,COUNT:0} strings={B:,C:}\nstep 55: n=0 notes=0 split=- trials=0 in=0 out=0 state=running next=14 held=[] numbers={N:0,M:0,I:0,K9:0,COUNT:0} strings={B:,C:}\nstep 56: n=0 notes=0 split=- trials=0 in=0 out=0 state=running next=14 held=[] numbers={N:0,M:0,I:0,K9:0,COUNT:0} strings={B:,C:}\nstep 57: n=0 notes=0 split=- trials=0 in=0 out=0 state=running next=14 held=[] numbers={N:0,M:0,I:0,K9:0,COUNT:0} strings={B:,C:}\nstep 58: n=0 notes=0 split=- trials=0 in=0 out=0 state=running next=14 held=[] numbers={N:0,M:0,I:0,K9:0,COUNT:0} strings={B:,C:}\nstep 59: n=0 notes=0 split=- trials=0 in=0 out=0 state=running next=14 held=[] numbers={N:0,M:0,I:0,K9:0,COUNT:0} strings={B:,C:}\nstep 60: n=0 notes=0 split=- trials=0 in=0 out=0 state=running next=14 held=[] numbers={N:0,M:0,I:0,K9:0,COUNT:0} strings={B:,C:}\n" ≡ true
unfolding agrees
m029 = refl

m030 : agrees "         PROGRAM LOTS\n         NUMB ER N,M,I  ,K9 \nL2       SCAN F$4[(S1),(C$M),F]\nLOOP     IF(NUMERIC(TEXTLONG))/L1\n* COMMENT 6\nDONE     ROUTINE R1\nX9       PRINT STRING(I),C\n         PRINT \"-\"9,STRING(I)\nL3       F = S1\n         EN DROUT  INE\nL1       END\n" "A,B20A02 0B0\n1\n12B1B0-, --BA02-+ B-- -+1-2BA0,02,+2A  B\n\n-2A\n\n A0AA-\nA2B0BA 2--A-\n" "REFUSED 5 8\n" ≡ true
unfolding agrees
m030 = refl

m031 : agrees "         PROGRAM TES  T  1\n         NUMBER N,M,I,K9\nX9       SCAN A[F,(G),(TEXTLONG),(S1)]=B/L1,L1\nLOOP     IF(K9<=6)/LOOP\nDONE     M=  0  *L ENGTH  (S1 )  / K9-3        \u{7f}                        SEQ41588\n L1     XB=STRING(7,I),\"\n        C\"\",STRING(M,N),\n         B\n         BACKSCAN L  INE[C$4  ]=\" AABB\"\n L3      L  I  NE=  F             \nL2       END" "+A," "REFUSED 3 5\n" ≡ true
unfolding agrees
m031 = refl

m032 : agrees "         PROGRAM P\n         NUMBER N\n         G O  TO L2\nL2       PRI  NT\nX9       S1=STRING(N),\",,2\"\nL3       ROUTINE R1\nL1       IF  (5<+7)  /L1,L 1\n         N=N-16\n         N=NUMBER(S1)-NUMBER(S1$4)+(NUMBER(S1$1))                       SEQ06042\n         ENDROUTINE                                                     SEQ63130\n* COMMENT 7\n         IF(LENGTH(B)>a-1)/X9\n         C=\nLOOP     SCAN A[S1,B]/,L3\n         N=N*N\nDONE     EXE  CUT  E   R1\n         B=\n         END" "A00,,-\nAB -0 \nB0BA-1\n-,1,AA1AA-A,\n" "REFUSED 5 12\n" ≡ true
unfolding agrees
m032 = refl

m033 : agrees "         PROGRAM TE ST1                                                9SEQ72065\n         NUMBER N,M\nDONE     ROUTINE   R1\nL2       ENDROUTINE\nL3       ROUTI  NE R2 \nL1       B=\"A,ABA\",B  $  0\n X9     1SCAN A$4[(                                                     SEQ09014\nIGNORED XS1 ), (B $3\n        C),( S1)] = \n          \nLOOP     ENDROUTINE \n         M=N-M-M-15 5\n         I  F(N  UMERIC(S1))/L3\n* COMMENT 5\n         BACKSCAN A[STRING(2,M),A]\n        1RE AD(6 0)  \n         S1$0/,L3\n         WRITE(61) S1$N\n         END\n" "" "REFUSED 3 7\n" ≡ true
unfolding agrees
m033 = refl

m034 : agrees "         P  ROGRAM   P\n        XNUMBER N,M,\n         I,K9,COUNT\nDONE    *ROUTIN                        1                                SEQ59724\n         E R2\n         IF(NULL(B)) /X9\nX9      CK9=2346-\n         1652\n         COUNT=LENGTH(S1)*(2)/(8/N/(LENGTH(C)*COUNT))\n L2      ENDROUTIN E\nL1       A$  COUNT=S1,  STRING(M)\n         ROUTINE R1\n         READ C\n         S1$5=\n L3      READ S1\n         END  ROUTINE \n* COMMENT 7\n         SCAN S1$6[B,(C$  3) , (C)]/ , L1\nLOOP     IF(NU  MERIC (C))/D ONE,L O OP\n         END\n" "22AA0AB A0B+\n,0-B 2B,+A20\n" "REFUSED 5 4\n" ≡ true
unfolding agrees
m034 = refl

m035 : agrees "         P ROGRA M  T ES  T1\n         NUMBER N\n         B ACKSCAN A[LINE  ,\"2\"]=/, L2\nL1       READ(60) C$N/L1\n         N=+9+N/LENGTH(B)*N*3\nL2       B$4= A  $0,STRING(-  8, N)\n    a    ROUTINE  R  1\nLOOP     IF(5<>N)/,DONE\nDONE     LINE=LINE$4,B,\" A\"\nL3       ENDROUTINE\n         EXECUTE R1\n X9      EN D\n" "2A+0 BBB+02B\n0,,A A- 100-A, A- 2 A120ABAB+AB11-A00+1,\nA1A+ 1 A21 A\n+\n+\n+10+A1BA, 200- ---A0100,10+ -AA0A A++B01\n \n2" "REFUSED 5 7\n" ≡ true
unfolding agrees
m035 = refl

m036 : agrees "         PROGRAM TEST1\nSTART    NUMBER  N\n        *RO  UTINE\n          R1\n X9      BACKSCAN C[\"AA\"]/X9\nLOOP     IF(N>N)/,X9\n         ENDROUTIN  E\n        XN=(9*(NU\n        X  MBER(S\n        X1  $5)  \n        *-(+L E N\n        *GTH(C)*N\n        +U MBER( \n        CS1$1)*  \n        1N))-  ((\n        X  -3)/LE\n        *NGTH(TE \n        C XTLO N \n        + G  ))-(\n        +LENGTH( \n         S1 )))\n         BACKSCAN C[A$N,(F),LINE$N,B]=\"2AAAA1121A1 \"\nDONE     F=C\n        *EXECUT\n         E R3\n         ROUTINE R3\n         N=+N\n,        READ(60) C/,L3\nL3       END  ROU TI  NE\n         LIN  E =C$N                                                    SEQ42788\n         SCAN TEXTLONG[]/,L1\n         BACKSCAN   C[TEXTLON  G] =ST  RING(1,N),\"A\"\n* COMMENT 6\n         ROUTINE R2\n         WRITE \" ,1B,2,BB ,B\",STRING(N),\"$2 -B\"\nL2       E  NDROUTINE\nL1       BACKSCAN B[STRING(-6,N)]=\"AA\",\"1\"/,DONE\n         N=0                                                            SEQ79393\n        *N=+NUMBER(TEXTLONG)-((1+NUMBER(S1$2)-N*N-NUMBER(LINE))/3)-LENGT\n         H(A)\n         EXECUTE R1\n         IF(LEN  GTH(LINE)>N)/, L  1\n* COMMENT 7\n         SCAN F[]=\"$\",STRING(0 ,N)  ,ST  RING(0,N)\n         E  ND\n" "\nB\n10+BA0\nA 0\nA-210201ABA+\n1\n0,- A2ABAA 1+AA121 BA2+-1,1AA0A++,,AAA,0\n 21-AA1AA2AA2,,A- B11A0 2  -A B+ -12,+1A\n" "REFUSED 5 28\n" ≡ true
unfolding agrees
m036 = refl

m037 : agrees "         PR OGRAM LOTS                                                  SEQ65453\n         NUMBER N,M\n L1      READ(60) L INE                                                 SEQ22713\nL2       B  ACKSCAN G[(C)]\nX9       SCAN9 G$0[G$M,\"23\",(B$2)]\n         ROUTINE R2\u{7f}L3       A=LIN  E\n DONE    IF(3<> -1)/ DONE ,D  ONE\n         ENDROUTINE\n* COMMENT 5\n         ROUTINE R1\nLOOP     ENDR OUTINE\n         E ND  \n" "" "REFUSED 5 5\n" ≡ true
unfolding agrees
m037 = refl

m038 : agrees "         PR  OGRAM   LOTS\n         NUMBER N,M,I,K9\nDONE     C=\"B\",B                 (                                       SEQ17922\nX9       C=ST  RING(K9,K9 )\nL2       C=A\nLOOP     IF(+8<=5)/L2 ,LOOP\nL1       A =ST  RI  NG( K9)\nL3       END\n" " 222+B\n" "REFUSED 3 3\n" ≡ true
unfolding agrees
m038 = refl

m039 : agrees "        *P  R \n        +OGRAM\n        1   TE\n         ST1\n         NUMBER N,M,I,K9,COUNT                                          SEQ27280\nDONE     RO  UTINE R1\n         READ C                                                                          Z\n         N  =-LENGTH(L I  NE)\nX9       EN  D RO  UTINE\n         LINE=F,\" ABBB1ABB BB\"\n         ROUTINE R2\nLOOP    CA=STRING(-4,M),STRING(-0\n         4,I),\"A \"\n* COMMENT 0\n L3      ENDR  OUTINE\nL2       BACKSAN S1$6[STRING(M)]                                       SEQ87195\nL1      END\n" "A\nA\n" "REFUSED 3 7\n" ≡ true
unfolding agrees
m039 = refl
