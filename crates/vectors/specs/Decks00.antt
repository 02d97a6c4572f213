-- Decks with their inputs and traces. Assumes nothing.
use Rattle.std.specs.Prelude.{true, ◌≡◌, refl}
use Rattle.vectors.specs.Trace.{agrees, agrees_whole}

m000 : agrees "         PROGRAM P\n         NUM  BER N,M  ,I,K9\nLOOP     BACKSCAN B[(S1),(C),\" \",A]/LOOP,LOOP                           SEQ39450\n        +A=C$2  ,B$\n         6\n         B$5=\"A11212,,B2BA\",C\n L3      EXECUTE R2\n         IF(I<K9)/L3\n        XSCA N A[(B) ,(C) ,(\n        * S1$0),(C)]/L1,L  O\n IGNORED  O  P \n         WRITE(61) B\nL1       ROUTINE R1\nL2       ENDROUTIBE\n         S1= A                                                          SEQ83905\n         READ S1/,LOOP\n         ROUTINE R2\nX9       S1=\n                                                                        SEQ\n DONE    K9 =10\n         READ  (60)   C $6/X  9  ,DON E\n         BACKSCAN B$2[\"22\",\"A\",(A)]=STRING(N)/X9\n         ENDROUTINE\n         A=\"  22B2BB2BA2\"                                              SEQ01690\n         SCAN S1[STR  ING(N)  ,\"AA\"]\n         WRIT  E S1\n         SCAN C[]=\"*\",\", \",\"1A\"\n         E  ND \n" "B\n\n-+ 2222+,AA2A2A-0AA0 2ABB+AA2-12B,A112A+\n0A-2A- 1A-,- 2A,002  - ,AB,+A,B0A,++2-A+\n0A10A,A+-AAA\nA-+-2B\n + B0-+-00B1+1+-,B+2AAB ,  -A12A  A+-AA2\n-A2A-00+A2 ,+ -  ,A0+1B212B1+ABB11A 01-A" "REFUSED 5 14\n" ≡ true
unfolding agrees
m000 = refl

m001 : agrees "         PRO  GRA  M P\n         NUMBER N,M,I\n         I  F(N<3 )/X9\n LOOP    C$0003=STRIN  G  (0  ,N) ,B  $M\nL3       READ B/DONE\n         GO TO DONE                                                    SEQ94258\n         GOTO L3\n                                                                        SEQ\n DONE    N=LENGTH(S1)+I/(N)/000B80\n X9      READ(60) LINE/LOOP\n         TEXTLONG=C,STRING(N,N),A,\",  A2BA ,ABA\"\n         N=-I\nL2       READ C/,L2\nL1       END\n" "2A-1A1\n10B--A\n" "REFUSED 5 9\n" ≡ true
unfolding agrees
m001 = refl

m002 : agrees "         PROGRAM P\nSTART    NUMBER N,M\n         READ(60) A\n         READ B/X9,X9\n         M=(+4978)*(M)-N*M-(N)*6110149*1928\n         ROUTINE R2\n   \n         PRINT B\nL3       ENDROUTINE\n         B=A,A$5\nX9       SCAN A[B,(B), (B$3),  STRING(M)]                               SEQ89224\n         N=(4557+)\nL2       N=NUMBER(A)*2\n         ROUTINE R1\nDONE     ENDROUTINE\nL1       ROUTINE R3\n         B$2=\nLOOP     A$5=\"AB\",B$0,\"B\",A\n         S CAN B[( A)] /LO  OP \n         M=M\n         ENDROUTINE\n         M=3\n         END\n" "" "REFUSED 5 12\n" ≡ true
unfolding agrees
m002 = refl

m003 : agrees "         PROGRAM TEST1\n         NUMBER NULL,M\n DONE    REA D(60) B$0/L3\nL3       BACKSCAN STRING$4[STING(9,NULL),S1$2]=/L1,L1\n LOOP    SCAN C$6[\"  1A2B, ,,AA\",STRING(NULL),\"A,2 22 B ,1,\",(B)]/,LOOP\nX9      1BACKSCAN B[STRING$0000,STRI\n         NG(0,M),(S1)]\nL2       BACKSCAN   B[ \"32\"]  /L 3\nL1       EN D\n" "  BAB1\n\n2 , ,2\nB-0B1-,B+ 1 +1AA+A+-A  ,2 A0,1A A+1-+A,0\n" "REFUSED 5 4\n" ≡ true
unfolding agrees
m003 = refl

m004 : agrees "         PRO GRAM P\n         NUMBER N,M,I\n LOOP    TEXTLONG=\"2\"\nDONE     WRITE(6  1)  \nL2       =ROUTINE  R1\n L3      SCAN F$6[\"0\",(A),B$3]/L3,L3\n         ENDROUTINE\n                                                                        SEQ\nL1       IF(+3>=2)/,LOOP\nX9       END\n" "-\n" "REFUSED 5 5\n" ≡ true
unfolding agrees
m004 = refl

m005 : agrees "         PRO  G  RAM LOTS\n         NUMBER N\n         BA  CKSC A  N   LINE[(B),A$005,(B)]/L1,L2\nX9       SCAN LIN E[( A$0001), (C),( A$3)] =S1/,DONE\n         S1=\n         IF(  NUME RIC(S1))/X9                                          SEQ46523\nLOOP     BACKSCAN B[]\n L2      N=N/N*NUMBER(B)/LENGTH(B)                                      SEQ93790\n         S1$4=\"-$ \",STRINGN,N)\n         PRI  NT  A\n         ROUTINE R1\n         SCAN B$1[]\n         B=STRING(N),\"A\"\n        +SC AN A[B  $4,(B ),STRNG(-  6,N),STRIN G(N),\"+02\",(  S1)  ,(LI\n         NE]=/L3,L3\n         ENDROUTINE\n                                                                        SEQ\n         B ACKS  CA N A[B,\"2\",(C  ),\"\"\"]=STRIN  G(-2,N)\nL1       SCA  N S1[(B),(C), \"3/((313+-=-+\"]/L2,LOOP \n         BACKSCAN B$0[B$1,STRING(7,N),A,(A)]=\"  \"\n* COMMENT 3\n DONE    PR INT(6 1) S  TR  ING(0,N)\n         E  N D\n" "-\nAAA,,,BA2B,B1BAAB0ABA0, B1AAB-AA-1A2AB0-\nB--10-\n0\nBB 2AA\n\n2,A  ,+ A2, \nA+," "REFUSED 5 9\n" ≡ true
unfolding agrees
m005 = refl

m006 : agrees "         PRO  GRAM P\n         NUMBER STRING,M,I\n         ROUTINE R2\n        XM=-NUMBE  R (READ$ST  RI NG) -(LENG  TH(B)/( (STRIN  G/0016 1))\n         )-STRING+LENGTH(READ) *LENGTH  (B)\n L1      READ=B,READ$4\n L2      GO TO L1\nX9      CIF(NUMBER(RE\n        *AD$0)=7)/L2,\n         X9\n         ENDROUTINE\n         ROUTINE R1\nL3       WRI  TE  \n         READ$4=\"B1AB2211 11B\"\n         READ=STRING( I),B \n         ENDROUTINE\n         SCAN READ[B,READ,(B$1)]/LOOP\n         READ=                                                         SEQ64573\n         IF (LENG  TH(READ)<=-4 )/,LO OP\n   \n         EXECU  TE   R  1\n         BACKSCAN READ$7[\"22\",(B),(B$I),(B),(B),(B),\"2=\"]=READ\n* COMMENT 1\n                                                                        SEQ\n LOOP    SCAN B[(READ$2)]\n         BACKSCAN READ$1[\"1-\",\",A,\",B$I]=READ/LOOP,LOOP\n         I=(2)\n         IF(NUMERIC(B))/LOOP\n         GOTO LOOP\n         END\n" "" "step 1: n=0 notes=0 split=- trials=0 in=0 out=0 state=running next=12 held=[] numbers={STRING:0,M:0,I:0} strings={READ:,B:,S:}\nstep 2: n=0 notes=0 split=- trials=0 in=0 out=0 state=running next=17 held=[] numbers={STRING:0,M:0,I:0} strings={READ:,B:,S:}\nstep 3: n=0 notes=0 split=- trials=3 in=0 out=0 state=running next=18 held=[] numbers={STRING:0,M:0,I:0} strings={READ:,B:,S:}\nstep 4: n=0 notes=0 split=- trials=0 in=0 out=0 state=running next=19 held=[] numbers={STRING:0,M:0,I:0} strings={READ:,B:,S:}\nstep 5: n=0 notes=0 split=- trials=0 in=0 out=0 state=running next=25 held=[] numbers={STRING:0,M:0,I:0} strings={READ:,B:,S:}\nstep 6: n=0 notes=0 split=- trials=1 in=0 out=0 state=running next=26 held=[] numbers={STRING:0,M:0,I:0} strings={READ:,B:,S:}\nstep 7: n=0 notes=0 split=- trials=1 in=0 out=0 state=running next=25 held=[] numbers={STRING:0,M:0,I:0} strings={READ:,B:,S:}\nstep 8: n=0 notes=0 split=- trials=1 in=0 out=0 state=running next=26 held=[] numbers={STRING:0,M:0,I:0} strings={READ:,B:,S:}\nstep 9: n=0 notes=0 split=- trials=1 in=0 out=0 state=running next=25 held=[] numbers={STRING:0,M:0,I:0} strings={READ:,B:,S:}\nstep 10: n=0 notes=0 split=- trials=1 in=0 out=0 state=running next=26 held=[] numbers={STRING:0,M:0,I:0} strings={READ:,B:,S:}\nstep 11: n=0 notes=0 split=- trials=1 in=0 out=0 state=running next=25 held=[] numbers={STRING:0,M:0,I:0} strings={READ:,B:,S:}\nstep 12: n=0 notes=0 split=- trials=1 in=0 out=0 state=running next=26 held=[] numbers={STRING:0,M:0,I:0} strings={READ:,B:,S:}\nstep 13: n=0 notes=0 split=- trials=1 in=0 out=0 state=running next=25 held=[] numbers={STRING:0,M:0,I:0} strings={READ:,B:,S:}\nstep 14: n=0 notes=0 split=- trials=1 in=0 out=0 state=running next=26 held=[] numbers={STRING:0,M:0,I:0} strings={READ:,B:,S:}\nstep 15: n=0 notes=0 split=- trials=1 in=0 out=0 state=running next=25 held=[] numbers={STRING:0,M:0,I:0} strings={READ:,B:,S:}\nstep 16: n=0 notes=0 split=- trials=1 in=0 out=0 state=running next=26 held=[] numbers={STRING:0,M:0,I:0} strings={READ:,B:,S:}\nstep 17: n=0 notes=0 split=- trials=1 in=0 out=0 state=running next=25 held=[] numbers={STRING:0,M:0,I:0} strings={READ:,B:,S:}\nstep 18: n=0 notes=0 split=- trials=1 in=0 out=0 state=running next=26 held=[] numbers={STRING:0,M:0,I:0} strings={READ:,B:,S:}\nstep 19: n=0 notes=0 split=- trials=1 in=0 out=0 state=running next=25 held=[] numbers={STRING:0,M:0,I:0} strings={READ:,B:,S:}\nstep 20: n=0 notes=0 split=- trials=1 in=0 out=0 state=running next=26 held=[] numbers={STRING:0,M:0,I:0} strings={READ:,B:,S:}\nstep 21: n=0 notes=0 split=- trials=1 in=0 out=0 state=running next=25 held=[] numbers={STRING:0,M:0,I:0} strings={READ:,B:,S:}\nstep 22: n=0 notes=0 split=- trials=1 in=0 out=0 state=running next=26 held=[] numbers={STRING:0,M:0,I:0} strings={READ:,B:,S:}\nstep 23: n=0 notes=0 split=- trials=1 in=0 out=0 state=running next=25 held=[] numbers={STRING:0,M:0,I:0} strings={READ:,B:,S:}\nstep 24: n=0 notes=0 split=- trials=1 in=0 out=0 state=running next=26 held=[] numbers={STRING:0,M:0,I:0} strings={READ:,B:,S:}\nstep 25: n=0 notes=0 split=- trials=1 in=0 out=0 state=running next=25 held=[] numbers={STRING:0,M:0,I:0} strings={READ:,B:,S:}\nstep 26: n=0 notes=0 split=- trials=1 in=0 out=0 state=running next=26 held=[] numbers={STRING:0,M:0,I:0} strings={READ:,B:,S:}\nstep 27: n=0 notes=0 split=- trials=1 in=0 out=0 state=running next=25 held=[] numbers={STRING:0,M:0,I:0} strings={READ:,B:,S:}\nstep 28: n=0 notes=0 split=- trials=1 in=0 out=0 state=running next=26 held=[] numbers={STRING:0,M:0,I:0} strings={READ:,B:,S:}\nstep 29: n=0 notes=0 split=- trials=1 in=0 out=0 state=running next=25 held=[] numbers={STRING:0,M:0,I:0} strings={READ:,B:,S:}\nstep 30: n=0 notes=0 split=- trials=1 in=0 out=0 state=running next=26 held=[] numbers={STRING:0,M:0,I:0} strings={READ:,B:,S:}\nstep 31: n=0 notes=0 split=- trials=1 in=0 out=0 state=running next=25 held=[] numbers={STRING:0,M:0,I:0} strings={READ:,B:,S:}\nstep 32: n=0 notes=0 split=- trials=1 in=0 out=0 state=running next=26 held=[] numbers={STRING:0,M:0,I:0} strings={READ:,B:,S:}\nstep 33: n=0 notes=0 split=- trials=1 in=0 out=0 state=running next=25 held=[] numbers={STRING:0,M:0,I:0} strings={READ:,B:,S:}\nstep 34: n=0 notes=0 split=- trials=1 in=0 out=0 state=running next=26 held=[] numbers={STRING:0,M:0,I:0} strings={READ:,B:,S:}\nstep 35: n=0 notes=0 split=- trials=1 in=0 out=0 state=running next=25 held=[] numbers={STRING:0,M:0,I:0} strings={READ:,B:,S:}\nstep 36: n=0 notes=0 split=- trials=1 in=0 out=0 state=running next=26 held=[] numbers={STRING:0,M:0,I:0} strings={READ:,B:,S:}\nstep 37: n=0 notes=0 split=- trials=1 in=0 out=0 state=running next=25 held=[] numbers={STRING:0,M:0,I:0} strings={READ:,B:,S:}\nstep 38: n=0 notes=0 split=- trials=1 in=0 out=0 state=running next=26 held=[] numbers={STRING:0,M:0,I:0} strings={READ:,B:,S:}\nstep 39: n=0 notes=0 split=- trials=1 in=0 out=0 state=running next=25 held=[] numbers={STRING:0,M:0,I:0} strings={READ:,B:,S:}\nstep 40: n=0 notes=0 split=- trials=1 in=0 out=0 state=running next=26 held=[] numbers={STRING:0,M:0,I:0} strings={READ:,B:,S:}\nstep 41: n=0 notes=0 split=- trials=1 in=0 out=0 state=running next=25 held=[] numbers={STRING:0,M:0,I:0} strings={READ:,B:,S:}\nstep 42: n=0 notes=0 split=- trials=1 in=0 out=0 state=running next=26 held=[] numbers={STRING:0,M:0,I:0} strings={READ:,B:,S:}\nstep 43: n=0 notes=0 split=- trials=1 in=0 out=0 state=running next=25 held=[] numbers={STRING:0,M:0,I:0} strings={READ:,B:,S:}\nstep 44: n=0 notes=0 split=- trials=1 in=0 out=0 state=running next=26 held=[] numbers={STRING:0,M:0,I:0} strings={READ:,B:,S:}\nstep 45: n=0 notes=0 split=- trials=1 in=0 out=0 state=running next=25 held=[] numbers={STRING:0,M:0,I:0} strings={READ:,B:,S:}\nstep 46: n=0 notes=0 split=- trials=1 in=0 out=0 state=running next=26 held=[] numbers={STRING:0,M:0,I:0} strings={READ:,B:,S:}\nstep 47: n=0 notes=0 split=- trials=1 in=0 out=0 state=running next=25 held=[] numbers={STRING:0,M:0,I:0} strings={READ:,B:,S:}\nstep 48: n=0 notes=0 split=- trials=1 in=0 out=0 state=running next=26 held=[] numbers={STRING:0,M:0,I:0} strings={READ:,B:,S:}\nstep 49: n=0 notes=0 split=- trials=1 in=0 out=0 state=running next=25 held=[] numbers={STRING:0,M:0,I:0} strings={READ:,B:,S:}\nstep 50: n=0 notes=0 split=- trials=1 in=0 out=0 state=running next=26 held=[] numbers={STRING:0,M:0,I:0} strings={READ:,B:,S:}\nstep 51: n=0 notes=0 split=- trials=1 in=0 out=0 state=running next=25 held=[] numbers={STRING:0,M:0,I:0} strings={READ:,B:,S:}\nstep 52: n=0 notes=0 split=- trials=1 in=0 out=0 state=running next=26 held=[] numbers={STRING:0,M:0,I:0} strings={READ:,B:,S:}\nstep 53: n=0 notes=0 split=- trials=1 in=0 out=0 state=running next=25 held=[] numbers={STRING:0,M:0,I:0} strings={READ:,B:,S:}\nstep 54: n=0 notes=0 split=- trials=1 in=0 out=0 state=running next=26 held=[] numbers={STRING:0,M:0,I:0} strings={READ:,B:,S:}\nstep 55: n=0 notes=0 split=- trials=1 in=0 out=0 state=running next=25 held=[] numbers={STRING:0,M:0,I:0} strings={READ:,B:,S:}\nstep 56: n=0 notes=0 split=- trials=1 in=0 out=0 state=running next=26 held=[] numbers={STRING:0,M:0,I:0} strings={READ:,B:,S:}\nstep 57: n=0 notes=0 split=- trials=1 in=0 out=0 state=running next=25 held=[] numbers={STRING:0,M:0,I:0} strings={READ:,B:,S:}\nstep 58: n=0 notes=0 split=- trials=1 in=0 out=0 state=running next=26 held=[] numbers={STRING:0,M:0,I:0} strings={READ:,B:,S:}\nstep 59: n=0 notes=0 split=- trials=1 in=0 out=0 state=running next=25 held=[] numbers={STRING:0,M:0,I:0} strings={READ:,B:,S:}\nstep 60: n=0 notes=0 split=- trials=1 in=0 out=0 state=running next=26 held=[] numbers={STRING:0,M:0,I:0} strings={READ:,B:,S:}\n" ≡ true
unfolding agrees
m006 = refl

m007 : agrees "         PROGRAM P\n         N  U MBE R N,  M                                               S     SCAN B[ (\nC),\" \"]=\"A\",B(/L2\nX9      CTEXTLONG=LI  N E,F$\n         4\nLOOP     GOTO L2\nDONE     C=LINE$1 ,STRING(N),C$N,ST  RI NG (0,  M)\nL3       WR ITE  F  ,STRI N G(N)\nL2       END" "" "REFUSED 3 2\n" ≡ true
unfolding agrees
m007 = refl

m008 : agrees "         PROGRAM TEST1                                                  SEQ86075\n         NUMBER N,M,I\n         WRITE \"B\",C\nL1      CBACKSCAN C[\"+B=,\n        *A-B)/(/1\",(B),(B\n         $1)]/L1,LOOP\n         RO  UTINE  R2                                                  SEQ78643\nL3       A=\"2\",\"/\",C$0,B\nX9       ENDROUTINE\nLOOP =   ROUT INE  R1\nL2       SCAN C$0000[C,\"A\",B$I,(B),STRING(M),A,A]=A/DONE\n* COMMENT 4\nDONE     ENDROUTINE\n         RE AD  C$ N/,LOOP\n        - E  ND\n" "0+,A0A\n+\n\n+" "REFUSED 5 10\n" ≡ true
unfolding agrees
m008 = refl

m009 : agrees "        XPRO GR\n         AM P  \n         NUMBER N,NUMBER,I\nL1      XSCAN   PR OG  RAM  [(B),STRING(N),(B$0)]=P  R  OGR AM  ,B,PRO  \nIGNORED  GRAM$  5/,L1\n         WRITE(61) PROGRAM$NUMBER,\"*$13(\"\nLOOP     NUMBER=I*I+I*NUMBER+NUMBER\nDONE     READ PROGRAM                                                   SEQ30607\n         IF ( 8<=NU MBER  (PROGRA  M$N))/LOOP  \n     B   GOTO LOOP\n         N=I-4123+2\n         EXECUTE R1\n        XPROGRAM$NUMBER\n         =PROGRAM,\"A\"\n        *B=PROGRAM,\"\n         1 \"\n        *ROUTINE\n            R1\n L2      PRINT \"A1\"\n X9      IF(NULL(PROGRAM))/L2\n         I=-(+NUMBER-(N))                                               SEQ93842\n         ENDROUTINE\n         BACKSCAN PROGRAM[(B)]=\"\"\",PROGRAM,B$0/L1\n L3      END  \n" "ABB\nAA,,,1AA+ BA\n21A1BBB--22+\n, 21+B2A2BAB\nB- 10A\nBA1\nB-12+,\n" "REFUSED 6 10\n" ≡ true
unfolding agrees
m009 = refl

m010 : agrees "         PROGRAM LOTS\n         NUMBER N\n LOOP    READ B                                                         SEQ81919\n* COMMENT 7\nL2       IF(  LENGTH  (B)>N)/,D ONE \nL1       A$6=                                                           SEQ84736\nDONE     N=N\nX9       A=\n LOOP    READ B                                                         SEQ81919\n L3      END\n" "" "REFUSED 6 9\n" ≡ true
unfolding agrees
m010 = refl

m011 : agrees "         PROGRAM P\n         NUMBER   N,M,I,  K9,COUNT\n         T  EXTLONG=B                                                   SEQ25803\n         READ(60) S1$N\n         IF(LENGTH(B)>=NUMBER(LINE$5))/,L1                              SEQ05627\nLOOP    +BACKSCAN S1$  8[STRING(3  ,I),STR  I NG(0,  I),S1$C  OUNT]=\"AAA\n          , A2A2,B\",\"2 1,2A12,1 A\"\nL1       BACKSCAN LINE[(A$N)]=\"\"\",\"A\"\nX9       READ S1                                                        SEQ16407\nDONE     W  R  ITE   STR  IN  G(K9)  \nL3       SCAN C$COUNT[\" 2 *(\"]/DONE,L3\nL2       S1$M=C                                                         SEQ24686\n         LINE=  \"211\"\n         LINE=\"11AAA B2B2A,\"\n         LINE$6 =S1$0,\"1 2AB\",TEXTLONG\n         IF(NULL(TEXTLONG))/,DONE\n        END\n" "" "REFUSED 3 17\n" ≡ true
unfolding agrees
m011 = refl

m012 : agrees "         PROGRAM LOTS\n         NUMBER N,M,I,K9\n         M=K9/7/(M)/K9+(NUMBER(LINE)+N*2)/0/LENGTH(B)*144\n\n         WRITE \"B,A1A\",STRING(M,M)\n         BACKSCAN C[(S1$0),STRING(M),STRING(0,I),A]=C/L1,L1\n         N=-(NUMBER(LINE)/I)                                            SEQ88639\n         EXI  T\n         ROUTINE R2\nLOOP     S CAN B[B,(LI NE$1)]=\"B\",\"A\",B/LOOP\nL3       SCAN C[(S1),(S1),\" \",(A)]=LINE,LINE$3,S1,C$1\nDONE     ENDROUTINE\n* COMMENT 5\n         WRITE S  TR  ING( -6,  K9)\n* COMMENT 9\n         ROUTINE R1                                                     SEQ65407\nX9       I=N-20  82+2\n         PRINT C,A\n         ENDROUTINE\n         B$K9=A,C$0004,A$2\n* COMMENT 7\nL2       SCAN C[(B)]/,L1\n         WRITE(61) C$4\n L1      I=-7909867+N/1*K9\n         P  RINT(6  1) \"(A\"\n        XBACKSCAS1[LINE$K9,\"A\",(A\n         )]=LINE$K9/,L2\n         END\n" "+\n-AB\n0 0+BAA+B02BA-0-+, A+-20,,,A-2++,A2 A1 A\n2\n0 AA21-22+22\n0+AB-2 2AA01A 21B--,- 00ABB00-11,22A-02A\nB-1\n--+\n" "REFUSED 5 26\n" ≡ true
unfolding agrees
m012 = refl

m013 : agrees "         PROGRAM P\n         NUMBER N,M,I\n                                                                        SEQ\n LOOP    READ(60) LINE/,LOOP\n L1      M=N/N*LENGTH( C)*I*I\n         ROUTINE R1\n         C$N=C$6,\"0\",\"A +2+1,3)-A0\",LINE\nX9       IF(+2=NUMBER(LINE))/,L3\n L3      IF(N=M)/L3,L3\n         WRITE C                                                        SEQ50237\n ,        ENDROUTINE\n* COMMENT 7\n DONE    N=+LENGTH(C)\nL2       END\n" ",2-\n,\n-+ 21+2 A-2+,000 0+A AB-0+B20 -2100AB-0-\n00+,+-0+1-1,B-+-+- -B+0A0A B0A,,1,+BB21A\n" "REFUSED 5 11\n" ≡ true
unfolding agrees
m013 = refl

m014 : agrees "         PROGRAM LOTS\n         NUMBER READ,M\n         SCAN LINE$7[(G),STRING(M,M),\"0/2\"]=STRING(M)/,L1\nL2      CBAC KSCAN LI NE[(ENDROUTINE$1),\"B\",A,\"\"\",(ENDROUTINE)] =F,STRI \n         NG(M)\n         WRIT E S1\n         SCAN ENDROUTINE$0[B,(A),(F),\"\"\",(F$003)]=/L2\n         READ A\n         G$0=LINE$READ\n         READ=M  /3\n        1SCAN LIN  E$0003[STRI  NG(0 ,  R EAD),\"A\",S  TRING(M ,M ),(G $2\nIGNORED    ),LINE,LINE,F]/L  1\n   \nL1       ROUTINE R1\nLOOP     G=\"1\",LINE$1\n         SCAN F[F$READ,G$5,G$6,(G$0)]=\",-\"\n         ENDROUTINE\n         M=1599*(-LENGTH(LINE))*READ\n         LINE=LINE,  LI NE,\",BA1B\",\",A\"                                 SEQ77354\n L3      GOTO L1\nX9       SCAN TEXTLONG\"$\",(ENDROUTINE$M),\"02/\",(F$3),\"AB\"]=/X9,DONE\n         BACKSCAN G[(B$READ)]=\"B 1\"/,L2\n         READ=+M\nDONE     END\n" "+,+2 A,+BB2+\n A1\n 0-A--,0,2A2B2AAA 0A0-B,AAAA A-101,-211B\n-,B2A+\n" "REFUSED 5 4\n" ≡ true
unfolding agrees
m014 = refl

m015 : agrees "         PROGR  AM TE ST1\n         NUMBER N,NULL,I\n         ROUTINE R3\n L2      S1=\",B\",S1$NULL\nX9       S1=\nL1       ENDROUTINE\n         R O  UTINE R2\n         BACKSCAN  S1[]/LOOP\n* COMMENT 8\n         C$2=\n         S1=C,S1\nLOOP     READ     B$I                                                   SEQ95262\n         ENDROUTINE\n        XROUTINE \nIGNORED  R1                                                             SEQ21428\nDONE     NULL=+N\nL3       ENDROUTINE\n* COMMENT 9\n         NULL=NUMBER(C)\n         SCAN PRINT[]\n         I F(+3<=I)/X9\n         READ(60) B/,L1\n   >      WRITE(61) \",,A\",STRING(N)\n         WRITE \"(B(3)30*0-2*\"                                           SEQ81633\n\n         C=B$2\n         END\n" "\n\n" "REFUSED 5 23\n" ≡ true
unfolding agrees
m015 = refl

m016 : agrees "         PROGRAM LOTS\n         NUMBER N,M,I\n* COMMENT 8\n         A=\"\"\",A$0                                                      SEQ36642\n         B=A\n         IF(-7<NUMBER(A))/L2\n         I=+M*N*N*3-NUMBER(A)\n         GO TO L2\n                                    1                                    SEQ\n         B=STRI+G(I,N),  \"+3\", B$3\n         R OU  TI  N  E R2\n         N=790  5531\n         BACKSCAN B[]=B$5/LOOP,LOOP\nLOOP     WRITE B,\"A\",\" 1A2,AB ,,  \",STRING(N)\n         M=2-10*N*5 \n         ENDROUTINE\nL2       ROUTINE R1                                                     SEQ91122\n         S  CAN A  [ (B)  ,(B) ,A]/L1  ,L1\nX9       A =B$4\n L3      BACKSCAN B$I[(A$0),\"A3\",\"B1\",(A),B$0]                          SEQ38332\n         ENDROUTINE\n* COMMENT 4\n         BACKSCAN B$N[(A),(A),(A)]=B/,L2\nDONE     END                                                            SEQ27662" "" "REFUSED 5 9\n" ≡ true
unfolding agrees
m016 = refl

m017 : agrees "         PROGRAM   L OTS\n         NUMBER N,M,I\nX9       WRITE(61) C,A$N\n         READ(60) S1                                                    SEQ06011\n         M=47-LENGTH(LINE)\n         M=(+3)*M*LENGTH(A)\nLOOP     BACKSCAN A[A$0,(C)]=\"A,\",\"1A=230,  1,1\"/X9,L3\n         I=M                                                            SEQ74942\n        CBACKSCAN B$3[]\n        +=\"A1B BA1A2 \n         \"/LOOP\n         ROUTINE R1\n* COMMENT 6\n L2      B=STRING(0,I),STRING(M)\nL1       ENDRO UTINE  \n         M=M-4485\nL3       M=(N)+ (-I)+  NUMBER(B)\n         SCAN B[(A$0),LINE,(LINE),(A$N),(A)]\nDONE     WRITE STRING(I,N),STRING(N),C,STRING(0,M)\n\n         M=-M+LENGTH(B)-M*NUMBER(C)\n         END\n" "" "step 1: n=0 notes=0 split=- trials=0 in=0 out=0 state=running next=4 held=[] numbers={N:0,M:0,I:0} strings={C:,A:,S1:,LINE:,B:}\nstep 2: n=0 notes=0 split=- trials=0 in=0 out=0 state=running next=5 held=[] numbers={N:0,M:0,I:0} strings={C:,A:,S1:,LINE:,B:}\nstep 3: n=0 notes=0 split=- trials=0 in=0 out=0 state=running next=6 held=[] numbers={N:0,M:47,I:0} strings={C:,A:,S1:,LINE:,B:}\nstep 4: n=0 notes=0 split=- trials=0 in=0 out=0 state=running next=7 held=[] numbers={N:0,M:0,I:0} strings={C:,A:,S1:,LINE:,B:}\nstep 5: n=0 notes=0 split=0;0,0 trials=1 in=0 out=0 state=running next=3 held=[] numbers={N:0,M:0,I:0} strings={C:,A:312c3120202c3033323d41312c41,S1:,LINE:,B:}\nstep 6: n=0 notes=0 split=- trials=0 in=0 out=0 state=running next=4 held=[] numbers={N:0,M:0,I:0} strings={C:,A:312c3120202c3033323d41312c41,S1:,LINE:,B:}\nstep 7: n=0 notes=0 split=- trials=0 in=0 out=0 state=running next=5 held=[] numbers={N:0,M:0,I:0} strings={C:,A:312c3120202c3033323d41312c41,S1:,LINE:,B:}\nstep 8: n=0 notes=0 split=- trials=0 in=0 out=0 state=running next=6 held=[] numbers={N:0,M:47,I:0} strings={C:,A:312c3120202c3033323d41312c41,S1:,LINE:,B:}\nstep 9: n=0 notes=0 split=- trials=0 in=0 out=0 state=running next=7 held=[] numbers={N:0,M:1974,I:0} strings={C:,A:312c3120202c3033323d41312c41,S1:,LINE:,B:}\nstep 10: n=0 notes=0 split=0;0,14 trials=1 in=0 out=0 state=running next=3 held=[] numbers={N:0,M:1974,I:0} strings={C:412c31413d3233302c2020312c31,A:312c3120202c3033323d41312c41,S1:,LINE:,B:}\nstep 11: n=0 notes=0 split=- trials=0 in=0 out=15 state=running next=4 held=[] numbers={N:0,M:1974,I:0} strings={C:412c31413d3233302c2020312c31,A:312c3120202c3033323d41312c41,S1:,LINE:,B:}\nstep 12: n=0 notes=0 split=- trials=0 in=0 out=15 state=running next=5 held=[] numbers={N:0,M:1974,I:0} strings={C:412c31413d3233302c2020312c31,A:312c3120202c3033323d41312c41,S1:,LINE:,B:}\nstep 13: n=0 notes=0 split=- trials=0 in=0 out=15 state=running next=6 held=[] numbers={N:0,M:47,I:0} strings={C:412c31413d3233302c2020312c31,A:312c3120202c3033323d41312c41,S1:,LINE:,B:}\nstep 14: n=0 notes=0 split=- trials=0 in=0 out=15 state=running next=7 held=[] numbers={N:0,M:1974,I:0} strings={C:412c31413d3233302c2020312c31,A:312c3120202c3033323d41312c41,S1:,LINE:,B:}\nstep 15: n=0 notes=0 split=0;0,14 trials=1 in=0 out=15 state=running next=3 held=[] numbers={N:0,M:1974,I:0} strings={C:412c31413d3233302c2020312c31,A:312c3120202c3033323d41312c41,S1:,LINE:,B:}\nstep 16: n=0 notes=0 split=- trials=0 in=0 out=30 state=running next=4 held=[] numbers={N:0,M:1974,I:0} strings={C:412c31413d3233302c2020312c31,A:312c3120202c3033323d41312c41,S1:,LINE:,B:}\nstep 17: n=0 notes=0 split=- trials=0 in=0 out=30 state=running next=5 held=[] numbers={N:0,M:1974,I:0} strings={C:412c31413d3233302c2020312c31,A:312c3120202c3033323d41312c41,S1:,LINE:,B:}\nstep 18: n=0 notes=0 split=- trials=0 in=0 out=30 state=running next=6 held=[] numbers={N:0,M:47,I:0} strings={C:412c31413d3233302c2020312c31,A:312c3120202c3033323d41312c41,S1:,LINE:,B:}\nstep 19: n=0 notes=0 split=- trials=0 in=0 out=30 state=running next=7 held=[] numbers={N:0,M:1974,I:0} strings={C:412c31413d3233302c2020312c31,A:312c3120202c3033323d41312c41,S1:,LINE:,B:}\nstep 20: n=0 notes=0 split=0;0,14 trials=1 in=0 out=30 state=running next=3 held=[] numbers={N:0,M:1974,I:0} strings={C:412c31413d3233302c2020312c31,A:312c3120202c3033323d41312c41,S1:,LINE:,B:}\nstep 21: n=0 notes=0 split=- trials=0 in=0 out=45 state=running next=4 held=[] numbers={N:0,M:1974,I:0} strings={C:412c31413d3233302c2020312c31,A:312c3120202c3033323d41312c41,S1:,LINE:,B:}\nstep 22: n=0 notes=0 split=- trials=0 in=0 out=45 state=running next=5 held=[] numbers={N:0,M:1974,I:0} strings={C:412c31413d3233302c2020312c31,A:312c3120202c3033323d41312c41,S1:,LINE:,B:}\nstep 23: n=0 notes=0 split=- trials=0 in=0 out=45 state=running next=6 held=[] numbers={N:0,M:47,I:0} strings={C:412c31413d3233302c2020312c31,A:312c3120202c3033323d41312c41,S1:,LINE:,B:}\nstep 24: n=0 notes=0 split=- trials=0 in=0 out=45 state=running next=7 held=[] numbers={N:0,M:1974,I:0} strings={C:412c31413d3233302c2020312c31,A:312c3120202c3033323d41312c41,S1:,LINE:,B:}\nstep 25: n=0 notes=0 split=0;0,14 trials=1 in=0 out=45 state=running next=3 held=[] numbers={N:0,M:1974,I:0} strings={C:412c31413d3233302c2020312c31,A:312c3120202c3033323d41312c41,S1:,LINE:,B:}\nstep 26: n=0 notes=0 split=- trials=0 in=0 out=60 state=running next=4 held=[] numbers={N:0,M:1974,I:0} strings={C:412c31413d3233302c2020312c31,A:312c3120202c3033323d41312c41,S1:,LINE:,B:}\nstep 27: n=0 notes=0 split=- trials=0 in=0 out=60 state=running next=5 held=[] numbers={N:0,M:1974,I:0} strings={C:412c31413d3233302c2020312c31,A:312c3120202c3033323d41312c41,S1:,LINE:,B:}\nstep 28: n=0 notes=0 split=- trials=0 in=0 out=60 state=running next=6 held=[] numbers={N:0,M:47,I:0} strings={C:412c31413d3233302c2020312c31,A:312c3120202c3033323d41312c41,S1:,LINE:,B:}\nstep 29: n=0 notes=0 split=- trials=0 in=0 out=60 state=running next=7 held=[] numbers={N:0,M:1974,I:0} strings={C:412c31413d3233302c2020312c31,A:312c3120202c3033323d41312c41,S1:,LINE:,B:}\nstep 30: n=0 notes=0 split=0;0,14 trials=1 in=0 out=60 state=running next=3 held=[] numbers={N:0,M:1974,I:0} strings={C:412c31413d3233302c2020312c31,A:312c3120202c3033323d41312c41,S1:,LINE:,B:}\nstep 31: n=0 notes=0 split=- trials=0 in=0 out=75 state=running next=4 held=[] numbers={N:0,M:1974,I:0} strings={C:412c31413d3233302c2020312c31,A:312c3120202c3033323d41312c41,S1:,LINE:,B:}\nstep 32: n=0 notes=0 split=- trials=0 in=0 out=75 state=running next=5 held=[] numbers={N:0,M:1974,I:0} strings={C:412c31413d3233302c2020312c31,A:312c3120202c3033323d41312c41,S1:,LINE:,B:}\nstep 33: n=0 notes=0 split=- trials=0 in=0 out=75 state=running next=6 held=[] numbers={N:0,M:47,I:0} strings={C:412c31413d3233302c2020312c31,A:312c3120202c3033323d41312c41,S1:,LINE:,B:}\nstep 34: n=0 notes=0 split=- trials=0 in=0 out=75 state=running next=7 held=[] numbers={N:0,M:1974,I:0} strings={C:412c31413d3233302c2020312c31,A:312c3120202c3033323d41312c41,S1:,LINE:,B:}\nstep 35: n=0 notes=0 split=0;0,14 trials=1 in=0 out=75 state=running next=3 held=[] numbers={N:0,M:1974,I:0} strings={C:412c31413d3233302c2020312c31,A:312c3120202c3033323d41312c41,S1:,LINE:,B:}\nstep 36: n=0 notes=0 split=- trials=0 in=0 out=90 state=running next=4 held=[] numbers={N:0,M:1974,I:0} strings={C:412c31413d3233302c2020312c31,A:312c3120202c3033323d41312c41,S1:,LINE:,B:}\nstep 37: n=0 notes=0 split=- trials=0 in=0 out=90 state=running next=5 held=[] numbers={N:0,M:1974,I:0} strings={C:412c31413d3233302c2020312c31,A:312c3120202c3033323d41312c41,S1:,LINE:,B:}\nstep 38: n=0 notes=0 split=- trials=0 in=0 out=90 state=running next=6 held=[] numbers={N:0,M:47,I:0} strings={C:412c31413d3233302c2020312c31,A:312c3120202c3033323d41312c41,S1:,LINE:,B:}\nstep 39: n=0 notes=0 split=- trials=0 in=0 out=90 state=running next=7 held=[] numbers={N:0,M:1974,I:0} strings={C:412c31413d3233302c2020312c31,A:312c3120202c3033323d41312c41,S1:,LINE:,B:}\nstep 40: n=0 notes=0 split=0;0,14 trials=1 in=0 out=90 state=running next=3 held=[] numbers={N:0,M:1974,I:0} strings={C:412c31413d3233302c2020312c31,A:312c3120202c3033323d41312c41,S1:,LINE:,B:}\nstep 41: n=0 notes=0 split=- trials=0 in=0 out=105 state=running next=4 held=[] numbers={N:0,M:1974,I:0} strings={C:412c31413d3233302c2020312c31,A:312c3120202c3033323d41312c41,S1:,LINE:,B:}\nstep 42: n=0 notes=0 split=- trials=0 in=0 out=105 state=running next=5 held=[] numbers={N:0,M:1974,I:0} strings={C:412c31413d3233302c2020312c31,A:312c3120202c3033323d41312c41,S1:,LINE:,B:}\nstep 43: n=0 notes=0 split=- trials=0 in=0 out=105 state=running next=6 held=[] numbers={N:0,M:47,I:0} strings={C:412c31413d3233302c2020312c31,A:312c3120202c3033323d41312c41,S1:,LINE:,B:}\nstep 44: n=0 notes=0 split=- trials=0 in=0 out=105 state=running next=7 held=[] numbers={N:0,M:1974,I:0} strings={C:412c31413d3233302c2020312c31,A:312c3120202c3033323d41312c41,S1:,LINE:,B:}\nstep 45: n=0 notes=0 split=0;0,14 trials=1 in=0 out=105 state=running next=3 held=[] numbers={N:0,M:1974,I:0} strings={C:412c31413d3233302c2020312c31,A:312c3120202c3033323d41312c41,S1:,LINE:,B:}\nstep 46: n=0 notes=0 split=- trials=0 in=0 out=120 state=running next=4 held=[] numbers={N:0,M:1974,I:0} strings={C:412c31413d3233302c2020312c31,A:312c3120202c3033323d41312c41,S1:,LINE:,B:}\nstep 47: n=0 notes=0 split=- trials=0 in=0 out=120 state=running next=5 held=[] numbers={N:0,M:1974,I:0} strings={C:412c31413d3233302c2020312c31,A:312c3120202c3033323d41312c41,S1:,LINE:,B:}\nstep 48: n=0 notes=0 split=- trials=0 in=0 out=120 state=running next=6 held=[] numbers={N:0,M:47,I:0} strings={C:412c31413d3233302c2020312c31,A:312c3120202c3033323d41312c41,S1:,LINE:,B:}\nstep 49: n=0 notes=0 split=- trials=0 in=0 out=120 state=running next=7 held=[] numbers={N:0,M:1974,I:0} strings={C:412c31413d3233302c2020312c31,A:312c3120202c3033323d41312c41,S1:,LINE:,B:}\nstep 50: n=0 notes=0 split=0;0,14 trials=1 in=0 out=120 state=running next=3 held=[] numbers={N:0,M:1974,I:0} strings={C:412c31413d3233302c2020312c31,A:312c3120202c3033323d41312c41,S1:,LINE:,B:}\nstep 51: n=0 notes=0 split=- trials=0 in=0 out=135 state=running next=4 held=[] numbers={N:0,M:1974,I:0} strings={C:412c31413d3233302c2020312c31,A:312c3120202c3033323d41312c41,S1:,LINE:,B:}\nstep 52: n=0 notes=0 split=- trials=0 in=0 out=135 state=running next=5 held=[] numbers={N:0,M:1974,I:0} strings={C:412c31413d3233302c2020312c31,A:312c3120202c3033323d41312c41,S1:,LINE:,B:}\nstep 53: n=0 notes=0 split=- trials=0 in=0 out=135 state=running next=6 held=[] numbers={N:0,M:47,I:0} strings={C:412c31413d3233302c2020312c31,A:312c3120202c3033323d41312c41,S1:,LINE:,B:}\nstep 54: n=0 notes=0 split=- trials=0 in=0 out=135 state=running next=7 held=[] numbers={N:0,M:1974,I:0} strings={C:412c31413d3233302c2020312c31,A:312c3120202c3033323d41312c41,S1:,LINE:,B:}\nstep 55: n=0 notes=0 split=0;0,14 trials=1 in=0 out=135 state=running next=3 held=[] numbers={N:0,M:1974,I:0} strings={C:412c31413d3233302c2020312c31,A:312c3120202c3033323d41312c41,S1:,LINE:,B:}\nstep 56: n=0 notes=0 split=- trials=0 in=0 out=150 state=running next=4 held=[] numbers={N:0,M:1974,I:0} strings={C:412c31413d3233302c2020312c31,A:312c3120202c3033323d41312c41,S1:,LINE:,B:}\nstep 57: n=0 notes=0 split=- trials=0 in=0 out=150 state=running next=5 held=[] numbers={N:0,M:1974,I:0} strings={C:412c31413d3233302c2020312c31,A:312c3120202c3033323d41312c41,S1:,LINE:,B:}\nstep 58: n=0 notes=0 split=- trials=0 in=0 out=150 state=running next=6 held=[] numbers={N:0,M:47,I:0} strings={C:412c31413d3233302c2020312c31,A:312c3120202c3033323d41312c41,S1:,LINE:,B:}\nstep 59: n=0 notes=0 split=- trials=0 in=0 out=150 state=running next=7 held=[] numbers={N:0,M:1974,I:0} strings={C:412c31413d3233302c2020312c31,A:312c3120202c3033323d41312c41,S1:,LINE:,B:}\nstep 60: n=0 notes=0 split=0;0,14 trials=1 in=0 out=150 state=running next=3 held=[] numbers={N:0,M:1974,I:0} strings={C:412c31413d3233302c2020312c31,A:312c3120202c3033323d41312c41,S1:,LINE:,B:}\n" ≡ true
unfolding agrees
m017 = refl

m018 : agrees "         P  ROGR AM TE ST1\n         NUMBER N,M,I,K9,COUNT                                          SEQ80850\n         SCAN LINE[(F),C$M,STRING(I),(F),(TEXTLONG)]=A,S1/DONE\n         WRITE B\n         RI  NG(-9,N) ,T  E XTLONG\n         READ(60) A/DO  NE\nDONE     WRITE \n* COMMENT 4\n         EXECUTE R1\nL1       SCAN B[C,\"(\",(F)]=STRING(-3,M),B\n\n         GOTO DONE\n         I=M                                                            SEQ36973\n         I=(M*N+LENGTH(S1)*M)/I+(3395)\n         EXE CUTE  R2\n         N=+(I)+I\n         RO UT INE R  1\n*/COMMENT 7\n LOOP    BAC  KS  CAN  F[\"A1\"]/ X9,X 9 \n* COMMENT 1\nX9       LINE=\"\"\",B,\")-B3B3=-/-$2\"                                      SEQ30208\n        XREAD C$I/X\n         9\n         ENDROUTINE\n         ROUTINE R2\nL2       A$2=\"1\",\"3=1-BA$2(-3-\"\nL3       ENDROUTINE\n         F=STRING(K9,COUNT)\n         COUNT=(1565966)-(413086*M)/I                                   SEQ67048\n         END                                                            SEQ21031\n" "" "REFUSED 5 5\n" ≡ true
unfolding agrees
m018 = refl

m019 : agrees "         PROGRAM LOTS                                                   SEQ85330\n         NUMB  ER N,M ,I  ,K9\n         ROUTINE R3\nL3       EN  DROU TI  N E\n         ROUTINE R2\nL2       EN  DROUTINE\n DONE    BACKSCAN  B  [(A$ 0),(S1)]=C\nX9      IF(5>=N)/,LOOP\n         ROUTINE R1\n         P RINT S1\nL1      +K9=(LENGTH(LINE)/LEN\n         GTH(TEXTLONG))\n         GO TO L1\n         ENDROUTINE\n         SCAN S1$ 2[LIN  E,  \"$$1*B\"]  /,  L  OOP\n        BACKSCAN LINE[]=\"1\"\nLOOP     EXECUTE R3\n         IF(6>NUM BER (A$M))/LOOP                                +      SEQ28690\n         REA D(6  0)   C/L  OOP, DONE\n* COMMENT 2\n         END\n" "-0-\nB\nA+,AAA\n\n+\n+2+2++2-1 2A\nAAA\n-A11  \n" "REFUSED 5 8\n" ≡ true
unfolding agrees
m019 = refl
