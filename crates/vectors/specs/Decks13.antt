-- Decks with their inputs and traces. Assumes nothing.
use Rattle.std.specs.Prelude.{true, ◌≡◌, refl}
use Rattle.vectors.specs.Trace.{agrees, agrees_whole}

v049 : agrees "         PROGRAM LOTS\n         NUMBER N,M,I,K9,COUNT\n         BACKSC AN  LIN  E[(TEXTLONG)  ,STRING(N)]=\"\"\",\"\"\"/L2\nL1       GO  T  O X9\n         LIN E=\"A\",\"*0\",  \"2*2,3\"\n\n LOOP    PRINT(6  1) \"1,11 B  A 11\"\n         COUNT=(0-NUMBER(G))*I\nL2       READ LINE/DONE                                                 SEQ86999\n         TEX TLONG=A,F\n DONE   +M=4*I*4166604/NUMBER(B)-(NUMBER(LINE)-COUNT*LENGTH(TEXTLONG)-I*\n         COUNT)*M                                                       SEQ61853\n         IF(9>=N)/X9\n         PRINT \"B\",F,C,C\nX9       END\n" "\n\n,+ 2, 20A- +, AA0+12ABB2,22AB-B0B A--A,2\nB" "step 1: n=0 notes=0 split=- trials=1 in=0 out=0 state=running next=4 held=[] numbers={N:0,M:0,I:0,K9:0,COUNT:0} strings={LINE:,TEXTLONG:,G:,A:,F:,B:,C:}\nstep 2: n=0 notes=0 split=- trials=0 in=0 out=0 state=running next=15 held=[] numbers={N:0,M:0,I:0,K9:0,COUNT:0} strings={LINE:,TEXTLONG:,G:,A:,F:,B:,C:}\nstep 3: n=0 notes=0 split=- trials=0 in=0 out=0 state=finished next=15 held=[] numbers={N:0,M:0,I:0,K9:0,COUNT:0} strings={LINE:,TEXTLONG:,G:,A:,F:,B:,C:}\n" ≡ true
unfolding agrees
v049 = refl

v050 : agrees "         PROGRAM LOTS  \n         NUMBER N,M,I,K9\n         PRINT(61) STRING(0,N)\nL3       ROUTINE R3\n* COMMENT 7\n         N=I\n DONE    BACKSCAN B$I[\"2\",(A$K9),(C)]/DONE                              SEQ97342\n         BACKSCAN B$6[\"  , ,\",B]=STRING(I,I),\"\"\"/DONE\n         PRINT STRING(-3,K9),STRING(K9),B$0,\"BA2A2AB1A 12\"\n         ENDROUTINE\n\n         ROUTI NE R1\n LOOP    C=C$1\n* COMMENT 6\n         ENDROUTINE                                                     SEQ51715\n* COMMENT 5\n         READ A\n         IF(NUMERIC(A))/,L2\nL2       BACKSCAN A[(C$0),STRING(I),(C$1),(C),A$0,(C$2),\"BBB B\"]=       SEQ21108\n         ROUTINE R2\n         B$006= C\n\n         GO TO X9\nX9       ENDROUTINE\nL1       READ(60)   A$K9\n        *WRITE                                                          SEQ67285\n        +(61) \n        1\"ABA1\n         B\"                                                             SEQ56517\n   \n         END" "" "step 1: n=0 notes=0 split=- trials=0 in=0 out=2 state=running next=4 held=[] numbers={N:0,M:0,I:0,K9:0} strings={B:,A:,C:}\nstep 2: n=0 notes=0 split=- trials=0 in=0 out=2 state=running next=12 held=[] numbers={N:0,M:0,I:0,K9:0} strings={B:,A:,C:}\nstep 3: n=0 notes=0 split=- trials=0 in=0 out=2 state=running next=17 held=[] numbers={N:0,M:0,I:0,K9:0} strings={B:,A:,C:}\nstep 4: n=0 notes=0 split=- trials=0 in=0 out=2 state=running next=18 held=[] numbers={N:0,M:0,I:0,K9:0} strings={B:,A:,C:}\nstep 5: n=0 notes=0 split=- trials=0 in=0 out=2 state=running next=19 held=[] numbers={N:0,M:0,I:0,K9:0} strings={B:,A:,C:}\nstep 6: n=0 notes=0 split=- trials=2 in=0 out=2 state=running next=20 held=[] numbers={N:0,M:0,I:0,K9:0} strings={B:,A:,C:}\nstep 7: n=0 notes=0 split=- trials=0 in=0 out=2 state=running next=25 held=[] numbers={N:0,M:0,I:0,K9:0} strings={B:,A:,C:}\nstep 8: n=0 notes=0 split=- trials=0 in=0 out=2 state=running next=26 held=[] numbers={N:0,M:0,I:0,K9:0} strings={B:,A:,C:}\nstep 9: n=0 notes=0 split=- trials=0 in=0 out=8 state=running next=31 held=[] numbers={N:0,M:0,I:0,K9:0} strings={B:,A:,C:}\nstep 10: n=0 notes=0 split=- trials=0 in=0 out=8 state=finished next=31 held=[] numbers={N:0,M:0,I:0,K9:0} strings={B:,A:,C:}\n" ≡ true
unfolding agrees
v050 = refl

v051 : agrees "         PROG  RAM P\nSTART    NU  MBER N,M ,I,K 9,C OUNT\n         WRIT E \"(((\"\n         READ(60) LINE$0\nDONE     READ(60) S1\n         IF(+2<N)/,LOOP\nL3       BACKSCAN S1$1[\"A1B,2\", B $K  9 ]/L1  \nL2       READ(60) A$0\n         EXIT\nX9       COUNT=+004767148\nL1       M=NUMBER(A)*1601-6487127\n LOOP    R  EA  D TEXT LONG\n* COMMENT 3\n         N=-M/10\n         END                                                            SEQ20483\n" "" "step 1: n=0 notes=0 split=- trials=0 in=0 out=4 state=running next=4 held=[] numbers={N:0,M:0,I:0,K9:0,COUNT:0} strings={LINE:,S1:,B:,A:,TEXTLONG:}\nstep 2: n=0 notes=0 split=- trials=0 in=0 out=4 state=running next=5 held=[] numbers={N:0,M:0,I:0,K9:0,COUNT:0} strings={LINE:,S1:,B:,A:,TEXTLONG:}\nstep 3: n=0 notes=0 split=- trials=0 in=0 out=4 state=running next=6 held=[] numbers={N:0,M:0,I:0,K9:0,COUNT:0} strings={LINE:,S1:,B:,A:,TEXTLONG:}\nstep 4: n=0 notes=0 split=- trials=0 in=0 out=4 state=running next=12 held=[] numbers={N:0,M:0,I:0,K9:0,COUNT:0} strings={LINE:,S1:,B:,A:,TEXTLONG:}\nstep 5: n=0 notes=0 split=- trials=0 in=0 out=4 state=running next=14 held=[] numbers={N:0,M:0,I:0,K9:0,COUNT:0} strings={LINE:,S1:,B:,A:,TEXTLONG:}\nstep 6: n=0 notes=0 split=- trials=0 in=0 out=4 state=running next=15 held=[] numbers={N:0,M:0,I:0,K9:0,COUNT:0} strings={LINE:,S1:,B:,A:,TEXTLONG:}\nstep 7: n=0 notes=0 split=- trials=0 in=0 out=4 state=finished next=15 held=[] numbers={N:0,M:0,I:0,K9:0,COUNT:0} strings={LINE:,S1:,B:,A:,TEXTLONG:}\n" ≡ true
unfolding agrees
v051 = refl

v052 : agrees "         PR OGR AM LOT  S\n         NUMBER N,M\n         PRINT  \"BB \",  LINE$6\n         GOTO L3\n         REA  D S1  /L3\n         EXECUTE R1\n         PRINT STRING(M),B\nL3       ROUTINE R1\n LOOP    N=+NUMBER(S1$M)\nL1       ENDROUTINE\nDONE    CSCAN  S1[ (LINE$1),STR  I  NG(9  ,M),(  C$N),\"A,B\",TE XTL ON G \n         $N,\"A1\",(  TEXTLONG$3)]=  \",22B,,212A,B\"/L2,X  9\nL2       GO TO DONE\nX9       M=NUMBER(C$0)\n         N=+LENGTH(LINE)\n* COMMENT 9\n         PRINT   \"B\",C \n         LINE=B,\",\",A$N,TEXTLONG$4\n         WRITE(6  1) TEXTLONG  \n         S1=LINE$1,TEXTLONG,B,C\n         END" ",--\n1" "step 1: n=0 notes=0 split=- trials=0 in=0 out=4 state=running next=4 held=[] numbers={N:0,M:0} strings={LINE:,S1:,B:,C:,TEXTLONG:,A:}\nstep 2: n=0 notes=0 split=- trials=0 in=0 out=4 state=running next=8 held=[] numbers={N:0,M:0} strings={LINE:,S1:,B:,C:,TEXTLONG:,A:}\nstep 3: n=0 notes=0 split=- trials=0 in=0 out=4 state=running next=11 held=[] numbers={N:0,M:0} strings={LINE:,S1:,B:,C:,TEXTLONG:,A:}\nstep 4: n=0 notes=0 split=- trials=1 in=0 out=4 state=running next=14 held=[] numbers={N:0,M:0} strings={LINE:,S1:,B:,C:,TEXTLONG:,A:}\nstep 5: n=0 notes=1 split=- trials=0 in=0 out=4 state=running next=15 held=[] numbers={N:0,M:0} strings={LINE:,S1:,B:,C:,TEXTLONG:,A:}\nstep 6: n=0 notes=0 split=- trials=0 in=0 out=4 state=running next=17 held=[] numbers={N:0,M:0} strings={LINE:,S1:,B:,C:,TEXTLONG:,A:}\nstep 7: n=0 notes=0 split=- trials=0 in=0 out=6 state=running next=18 held=[] numbers={N:0,M:0} strings={LINE:,S1:,B:,C:,TEXTLONG:,A:}\nstep 8: n=0 notes=0 split=- trials=0 in=0 out=6 state=running next=19 held=[] numbers={N:0,M:0} strings={LINE:2c,S1:,B:,C:,TEXTLONG:,A:}\nstep 9: n=0 notes=0 split=- trials=0 in=0 out=6 state=running next=20 held=[] numbers={N:0,M:0} strings={LINE:2c,S1:,B:,C:,TEXTLONG:,A:}\nstep 10: n=0 notes=0 split=- trials=0 in=0 out=6 state=running next=21 held=[] numbers={N:0,M:0} strings={LINE:2c,S1:2c,B:,C:,TEXTLONG:,A:}\nstep 11: n=0 notes=0 split=- trials=0 in=0 out=6 state=finished next=21 held=[] numbers={N:0,M:0} strings={LINE:2c,S1:2c,B:,C:,TEXTLONG:,A:}\n" ≡ true
unfolding agrees
v052 = refl

v053 : agrees "         PROGRAM TEST1\n         NUMBER N,M,I,K9,COUNT                                          SEQ01455\n         SCAN  A$1[]  =B, C$2,\"A\"/X9,X9\n        CRO  U                                                          SEQ36798\n        CTINE \n         R 1\nDONE     GO TO DONE\n         TEXTLONG$1=\n         M=(9*NUMBER(TEXTLONG))*187/(-(7267094-M)-I/LENGTH(A)-4*3)      SEQ63351\n         N=N\n         ENDROUTINE\n         COUNT=N-LENGTH(TEXTLONG)*COUNT-1123-2*(K9+1+7)*I\n X9      B =F,\"+\"\n         READ(60) A$COUNT\n         ROUTINE R3\n         G O TO  L1                                                     SEQ25822\n         I  F(+9  =  I)  /L1                                            SEQ91448\n\nL1       ENDROUTINE\n         SCAN TEXTLONG$3[(B),(S1),(S1$2)]/X9\n         ROUTIN E R2\nL2       IF( K9 <>2) /LOOP\nL3       IF(M>+4)/L 3,LO  OP\n LOOP    ENDROUTINE\n         E ND\n" "AAA0--AB20 1" "step 1: n=0 notes=0 split=0; trials=0 in=0 out=0 state=running next=13 held=[] numbers={N:0,M:0,I:0,K9:0,COUNT:0} strings={A:41,B:,C:,TEXTLONG:,F:,S1:}\nstep 2: n=0 notes=0 split=- trials=0 in=0 out=0 state=running next=14 held=[] numbers={N:0,M:0,I:0,K9:0,COUNT:0} strings={A:41,B:2b,C:,TEXTLONG:,F:,S1:}\nstep 3: n=0 notes=0 split=- trials=0 in=0 out=0 state=running next=15 held=[] numbers={N:0,M:0,I:0,K9:0,COUNT:0} strings={A:41,B:2b,C:,TEXTLONG:,F:,S1:}\nstep 4: n=0 notes=0 split=- trials=0 in=0 out=0 state=running next=20 held=[] numbers={N:0,M:0,I:0,K9:0,COUNT:0} strings={A:41,B:2b,C:,TEXTLONG:,F:,S1:}\nstep 5: n=0 notes=0 split=- trials=1 in=0 out=0 state=running next=21 held=[] numbers={N:0,M:0,I:0,K9:0,COUNT:0} strings={A:41,B:,C:,TEXTLONG:,F:,S1:}\nstep 6: n=0 notes=0 split=- trials=0 in=0 out=0 state=running next=25 held=[] numbers={N:0,M:0,I:0,K9:0,COUNT:0} strings={A:41,B:,C:,TEXTLONG:,F:,S1:}\nstep 7: n=0 notes=0 split=- trials=0 in=0 out=0 state=finished next=25 held=[] numbers={N:0,M:0,I:0,K9:0,COUNT:0} strings={A:41,B:,C:,TEXTLONG:,F:,S1:}\n" ≡ true
unfolding agrees
v053 = refl

v054 : agrees "         PROGRAM LOTS\n         NUMBER N,M\nX9       A=  C $I\nL1       M=M/NUMBER(B)*N\n* COMMENT 4\nLOOP     S1=LINE                                                        SEQ14988\n         BACKSCAN B$2[\"1A1,22A12,BA\",(LINE),\"1,\",STRING(I,M)]=F/,LOOP\n L2      F=\n         PRINT( 61) \" B\",F$  4\n        CBACKSCAN S1[B$M,(C$2),TEXTLONG\n         ]/X9,DONE\n\n         B=\"A\",\" 13\"\n* COMMENT 1\n         READ F\n         READ(60) L  IN E                                               SEQ37984\n         N=M-NUMBER(S1$5)-M\nDONE     BACKSCAN  TEX TLONG[(B),STR ING(1,N),\"3\"]\n         E  X  IT\n* COMMENT 7\n         I =N\n L3      END\n" "+1 \n\n +12--0 1A+1A012-2 0-AB-B1  -A212BAA A2B\n+\n1  , 0\n\n \n2B1AAAAAAB1-B+ +AB AAAB B, 01 1-,B+-AB, \n" "REFUSED 7 3\n" ≡ true
unfolding agrees
v054 = refl

v055 : agrees "         PROGR AM LOTS\n         NUMBER N,M,I,K9\n         PRINT \"A, 12\"\n         ROUTINE R2\nX9       S1$6=\"-)*1,=-)2,$A\"\nL3      *K  9=  3* NUMBE  R(B)+(+(  0)+N/(I/ 115+(+  6236600)-LENGTH(B))\n         +LENGTH(B))\nDONE     PRINT(61) STRING(6,I),A,B\n L1      ENDR  OUTINE\n         SCAN C[B,C,(B$2),\"A\",C$K9,(A),(A$3)]=\"B)\",S1,\"A,\",A\n         WRITE(  61) \"3\",A, \"\"\"\nLOOP     ROUTINE R1\n         A$N=S1$6,\"\"\"\nL2       READ  B\n        XENDROU\n         TINE\n         C$I=B  , ST  RING(M) \n         C=\n         PRINT STRING(-2,N),\"A\"                                         SEQ42394\n         IF(  NU  MBER(B$3)>N)/, LOOP\n         END\n" "2+22A+--A+0+12,B-0+B11B+ A1+B02 1,1A-AB \n1\n1A0B,-\n-B+00,2++ -1-0-B0A2 + 20000-2A0+0 A2-0A-\nA-00B0-0+02 A,AAA1B-A1B 2+A0,A0,A++2AA2B\nB-A\n\nA+,A-0A2AB A,A+B, 2,-2B,,-02, 1  , AA-BA\n" "step 1: n=0 notes=0 split=- trials=0 in=0 out=6 state=running next=4 held=[] numbers={N:0,M:0,I:0,K9:0} strings={S1:,B:,A:,C:}\nstep 2: n=0 notes=0 split=- trials=0 in=0 out=6 state=running next=10 held=[] numbers={N:0,M:0,I:0,K9:0} strings={S1:,B:,A:,C:}\nstep 3: n=0 notes=0 split=- trials=3 in=0 out=6 state=running next=11 held=[] numbers={N:0,M:0,I:0,K9:0} strings={S1:,B:,A:,C:}\nstep 4: n=0 notes=0 split=- trials=0 in=0 out=9 state=running next=12 held=[] numbers={N:0,M:0,I:0,K9:0} strings={S1:,B:,A:,C:}\nstep 5: n=0 notes=0 split=- trials=0 in=0 out=9 state=running next=17 held=[] numbers={N:0,M:0,I:0,K9:0} strings={S1:,B:,A:,C:}\nstep 6: n=0 notes=0 split=- trials=0 in=0 out=9 state=running next=18 held=[] numbers={N:0,M:0,I:0,K9:0} strings={S1:,B:,A:,C:30}\nstep 7: n=0 notes=0 split=- trials=0 in=0 out=9 state=running next=19 held=[] numbers={N:0,M:0,I:0,K9:0} strings={S1:,B:,A:,C:}\nstep 8: n=0 notes=0 split=- trials=0 in=0 out=13 state=running next=20 held=[] numbers={N:0,M:0,I:0,K9:0} strings={S1:,B:,A:,C:}\nstep 9: n=0 notes=1 split=- trials=0 in=0 out=13 state=running next=12 held=[] numbers={N:0,M:0,I:0,K9:0} strings={S1:,B:,A:,C:}\nstep 10: n=0 notes=0 split=- trials=0 in=0 out=13 state=running next=17 held=[] numbers={N:0,M:0,I:0,K9:0} strings={S1:,B:,A:,C:}\nstep 11: n=0 notes=0 split=- trials=0 in=0 out=13 state=running next=18 held=[] numbers={N:0,M:0,I:0,K9:0} strings={S1:,B:,A:,C:30}\nstep 12: n=0 notes=0 split=- trials=0 in=0 out=13 state=running next=19 held=[] numbers={N:0,M:0,I:0,K9:0} strings={S1:,B:,A:,C:}\nstep 13: n=0 notes=0 split=- trials=0 in=0 out=17 state=running next=20 held=[] numbers={N:0,M:0,I:0,K9:0} strings={S1:,B:,A:,C:}\nstep 14: n=0 notes=1 split=- trials=0 in=0 out=17 state=running next=12 held=[] numbers={N:0,M:0,I:0,K9:0} strings={S1:,B:,A:,C:}\nstep 15: n=0 notes=0 split=- trials=0 in=0 out=17 state=running next=17 held=[] numbers={N:0,M:0,I:0,K9:0} strings={S1:,B:,A:,C:}\nstep 16: n=0 notes=0 split=- trials=0 in=0 out=17 state=running next=18 held=[] numbers={N:0,M:0,I:0,K9:0} strings={S1:,B:,A:,C:30}\nstep 17: n=0 notes=0 split=- trials=0 in=0 out=17 state=running next=19 held=[] numbers={N:0,M:0,I:0,K9:0} strings={S1:,B:,A:,C:}\nstep 18: n=0 notes=0 split=- trials=0 in=0 out=21 state=running next=20 held=[] numbers={N:0,M:0,I:0,K9:0} strings={S1:,B:,A:,C:}\nstep 19: n=0 notes=1 split=- trials=0 in=0 out=21 state=running next=12 held=[] numbers={N:0,M:0,I:0,K9:0} strings={S1:,B:,A:,C:}\nstep 20: n=0 notes=0 split=- trials=0 in=0 out=21 state=running next=17 held=[] numbers={N:0,M:0,I:0,K9:0} strings={S1:,B:,A:,C:}\nstep 21: n=0 notes=0 split=- trials=0 in=0 out=21 state=running next=18 held=[] numbers={N:0,M:0,I:0,K9:0} strings={S1:,B:,A:,C:30}\nstep 22: n=0 notes=0 split=- trials=0 in=0 out=21 state=running next=19 held=[] numbers={N:0,M:0,I:0,K9:0} strings={S1:,B:,A:,C:}\nstep 23: n=0 notes=0 split=- trials=0 in=0 out=25 state=running next=20 held=[] numbers={N:0,M:0,I:0,K9:0} strings={S1:,B:,A:,C:}\nstep 24: n=0 notes=1 split=- trials=0 in=0 out=25 state=running next=12 held=[] numbers={N:0,M:0,I:0,K9:0} strings={S1:,B:,A:,C:}\nstep 25: n=0 notes=0 split=- trials=0 in=0 out=25 state=running next=17 held=[] numbers={N:0,M:0,I:0,K9:0} strings={S1:,B:,A:,C:}\nstep 26: n=0 notes=0 split=- trials=0 in=0 out=25 state=running next=18 held=[] numbers={N:0,M:0,I:0,K9:0} strings={S1:,B:,A:,C:30}\nstep 27: n=0 notes=0 split=- trials=0 in=0 out=25 state=running next=19 held=[] numbers={N:0,M:0,I:0,K9:0} strings={S1:,B:,A:,C:}\nstep 28: n=0 notes=0 split=- trials=0 in=0 out=29 state=running next=20 held=[] numbers={N:0,M:0,I:0,K9:0} strings={S1:,B:,A:,C:}\nstep 29: n=0 notes=1 split=- trials=0 in=0 out=29 state=running next=12 held=[] numbers={N:0,M:0,I:0,K9:0} strings={S1:,B:,A:,C:}\nstep 30: n=0 notes=0 split=- trials=0 in=0 out=29 state=running next=17 held=[] numbers={N:0,M:0,I:0,K9:0} strings={S1:,B:,A:,C:}\nstep 31: n=0 notes=0 split=- trials=0 in=0 out=29 state=running next=18 held=[] numbers={N:0,M:0,I:0,K9:0} strings={S1:,B:,A:,C:30}\nstep 32: n=0 notes=0 split=- trials=0 in=0 out=29 state=running next=19 held=[] numbers={N:0,M:0,I:0,K9:0} strings={S1:,B:,A:,C:}\nstep 33: n=0 notes=0 split=- trials=0 in=0 out=33 state=running next=20 held=[] numbers={N:0,M:0,I:0,K9:0} strings={S1:,B:,A:,C:}\nstep 34: n=0 notes=1 split=- trials=0 in=0 out=33 state=running next=12 held=[] numbers={N:0,M:0,I:0,K9:0} strings={S1:,B:,A:,C:}\nstep 35: n=0 notes=0 split=- trials=0 in=0 out=33 state=running next=17 held=[] numbers={N:0,M:0,I:0,K9:0} strings={S1:,B:,A:,C:}\nstep 36: n=0 notes=0 split=- trials=0 in=0 out=33 state=running next=18 held=[] numbers={N:0,M:0,I:0,K9:0} strings={S1:,B:,A:,C:30}\nstep 37: n=0 notes=0 split=- trials=0 in=0 out=33 state=running next=19 held=[] numbers={N:0,M:0,I:0,K9:0} strings={S1:,B:,A:,C:}\nstep 38: n=0 notes=0 split=- trials=0 in=0 out=37 state=running next=20 held=[] numbers={N:0,M:0,I:0,K9:0} strings={S1:,B:,A:,C:}\nstep 39: n=0 notes=1 split=- trials=0 in=0 out=37 state=running next=12 held=[] numbers={N:0,M:0,I:0,K9:0} strings={S1:,B:,A:,C:}\nstep 40: n=0 notes=0 split=- trials=0 in=0 out=37 state=running next=17 held=[] numbers={N:0,M:0,I:0,K9:0} strings={S1:,B:,A:,C:}\nstep 41: n=0 notes=0 split=- trials=0 in=0 out=37 state=running next=18 held=[] numbers={N:0,M:0,I:0,K9:0} strings={S1:,B:,A:,C:30}\nstep 42: n=0 notes=0 split=- trials=0 in=0 out=37 state=running next=19 held=[] numbers={N:0,M:0,I:0,K9:0} strings={S1:,B:,A:,C:}\nstep 43: n=0 notes=0 split=- trials=0 in=0 out=41 state=running next=20 held=[] numbers={N:0,M:0,I:0,K9:0} strings={S1:,B:,A:,C:}\nstep 44: n=0 notes=1 split=- trials=0 in=0 out=41 state=running next=12 held=[] numbers={N:0,M:0,I:0,K9:0} strings={S1:,B:,A:,C:}\nstep 45: n=0 notes=0 split=- trials=0 in=0 out=41 state=running next=17 held=[] numbers={N:0,M:0,I:0,K9:0} strings={S1:,B:,A:,C:}\nstep 46: n=0 notes=0 split=- trials=0 in=0 out=41 state=running next=18 held=[] numbers={N:0,M:0,I:0,K9:0} strings={S1:,B:,A:,C:30}\nstep 47: n=0 notes=0 split=- trials=0 in=0 out=41 state=running next=19 held=[] numbers={N:0,M:0,I:0,K9:0} strings={S1:,B:,A:,C:}\nstep 48: n=0 notes=0 split=- trials=0 in=0 out=45 state=running next=20 held=[] numbers={N:0,M:0,I:0,K9:0} strings={S1:,B:,A:,C:}\nstep 49: n=0 notes=1 split=- trials=0 in=0 out=45 state=running next=12 held=[] numbers={N:0,M:0,I:0,K9:0} strings={S1:,B:,A:,C:}\nstep 50: n=0 notes=0 split=- trials=0 in=0 out=45 state=running next=17 held=[] numbers={N:0,M:0,I:0,K9:0} strings={S1:,B:,A:,C:}\nstep 51: n=0 notes=0 split=- trials=0 in=0 out=45 state=running next=18 held=[] numbers={N:0,M:0,I:0,K9:0} strings={S1:,B:,A:,C:30}\nstep 52: n=0 notes=0 split=- trials=0 in=0 out=45 state=running next=19 held=[] numbers={N:0,M:0,I:0,K9:0} strings={S1:,B:,A:,C:}\nstep 53: n=0 notes=0 split=- trials=0 in=0 out=49 state=running next=20 held=[] numbers={N:0,M:0,I:0,K9:0} strings={S1:,B:,A:,C:}\nstep 54: n=0 notes=1 split=- trials=0 in=0 out=49 state=running next=12 held=[] numbers={N:0,M:0,I:0,K9:0} strings={S1:,B:,A:,C:}\nstep 55: n=0 notes=0 split=- trials=0 in=0 out=49 state=running next=17 held=[] numbers={N:0,M:0,I:0,K9:0} strings={S1:,B:,A:,C:}\nstep 56: n=0 notes=0 split=- trials=0 in=0 out=49 state=running next=18 held=[] numbers={N:0,M:0,I:0,K9:0} strings={S1:,B:,A:,C:30}\nstep 57: n=0 notes=0 split=- trials=0 in=0 out=49 state=running next=19 held=[] numbers={N:0,M:0,I:0,K9:0} strings={S1:,B:,A:,C:}\nstep 58: n=0 notes=0 split=- trials=0 in=0 out=53 state=running next=20 held=[] numbers={N:0,M:0,I:0,K9:0} strings={S1:,B:,A:,C:}\nstep 59: n=0 notes=1 split=- trials=0 in=0 out=53 state=running next=12 held=[] numbers={N:0,M:0,I:0,K9:0} strings={S1:,B:,A:,C:}\nstep 60: n=0 notes=0 split=- trials=0 in=0 out=53 state=running next=17 held=[] numbers={N:0,M:0,I:0,K9:0} strings={S1:,B:,A:,C:}\n" ≡ true
unfolding agrees
v055 = refl

v056 : agrees "         PROGRAM P\n         NUMBER N\n         N=-LENGTH(TEXTLONG)/N+3*LENGTH(B)-14/N\n         N=(N/NUMBER(A)*4827538)\n         SCAN A[\")2\",STRING(N),(TEXTLONG$3),B$6,LINE]/L2\n         C=A$N,LINE$1,S1\n         S CAN A  [(C$  N) ,\"+\",\"\"\"]=  S1$1  ,\"2\"\nX9       A=\"B, \",\"A\"\n         PRINT A, STRING(N),A,TEXTLONG$1\nL2       ROUT  INE R1\n         LINE$2=\n         BACKSCAN B$N[B,A,(S1)]\n L1      READ C$5 /L 1  \n         ENDR OUTINE  \n         EXECUTE R2\n         ROUTINE R3                                                     SEQ54346\n DONE    N=NUMB  ER(A)/N\n         BACKSCA  N   B[B,\"$/\",TEXTLON  G$ 3]/  ,DONE \n        1BACKSCAN S1[\"=\",(\n        CA),TEXTLONG,C$N,(\n         A$N)]/DONE,DONE\n         ENDROUTINE\n         ROUTINE R2                                                     SEQ40464\nL3       N=2252*N\n         B$0  =\"=-B\"\n         N=L  EN  GTH(TEXTLO  NG)-N\nLOOP     ENDROUTINE\n         END                                                            SEQ67044\n" "A,0-A0\nA-,1,2 A,1+B\n+\nB0B\n" "step 1: n=18 notes=0 split=- trials=0 in=0 out=0 state=stopped next=3 held=[] numbers={N:0} strings={TEXTLONG:,B:,A:,LINE:,C:,S1:}\n" ≡ true
unfolding agrees
v056 = refl

v057 : agrees "         PR OGRA  M P\n         NUMBER N,M,I,K9                                                SEQ77571\n\nX9       SCAN B$2[\",AB 1\"]=\"0\"/X9,L2\n DONE    ROUTINE R2\n         RETURN\n* COMMENT 6\n LOOP    A=\"32\",STRING(M,N),B$1,B$I\n L3      ENDROUTINE                                                     SEQ51873\n         ROUTINE R1\n         READ(60) A/L1,L1\n         READ ( 60) A$2/,L1\n         READ A/,L1  \nL1       EXECUTE R2\n         ENDROUTINE\n         WRITE(61) \"AA,1 A,BA,21\"\nL2       A=\" ,\",\"21\"                                                    SEQ47954\n         END\n" "A, \nA-A\n" "step 1: n=0 notes=0 split=- trials=1 in=0 out=0 state=running next=17 held=[] numbers={N:0,M:0,I:0,K9:0} strings={B:,A:}\nstep 2: n=0 notes=0 split=- trials=0 in=0 out=0 state=running next=18 held=[] numbers={N:0,M:0,I:0,K9:0} strings={B:,A:202c3231}\nstep 3: n=0 notes=0 split=- trials=0 in=0 out=0 state=finished next=18 held=[] numbers={N:0,M:0,I:0,K9:0} strings={B:,A:202c3231}\n" ≡ true
unfolding agrees
v057 = refl

v058 : agrees "         PROGRAM LOTS\n         NUMBER N,M,I,K9\nDONE     GO TO X9\nL3       IF(NUMERIC(C  ))/,X9\n         LIN E=B\nL2       LINE = C\n         SCAN B$4[S1]=STRING(M)/,L2                                     SEQ34684\nX9       A=B\n LOOP    READ B\nL1       END                                                            SEQ22861\n" "+1AA-+1A , A\n,21, 1-00A++\n1,-0 AA- 1+AB20,,2 +2AAA,2AA22++0BB-0,-A\nA A\n" "step 1: n=0 notes=0 split=- trials=0 in=0 out=0 state=running next=8 held=[] numbers={N:0,M:0,I:0,K9:0} strings={C:,LINE:,B:,S1:,A:}\nstep 2: n=0 notes=0 split=- trials=0 in=0 out=0 state=running next=9 held=[] numbers={N:0,M:0,I:0,K9:0} strings={C:,LINE:,B:,S1:,A:}\nstep 3: n=0 notes=0 split=- trials=0 in=13 out=0 state=running next=10 held=[] numbers={N:0,M:0,I:0,K9:0} strings={C:,LINE:,B:2b3141412d2b3141202c2041,S1:,A:}\nstep 4: n=0 notes=0 split=- trials=0 in=13 out=0 state=finished next=10 held=[] numbers={N:0,M:0,I:0,K9:0} strings={C:,LINE:,B:2b3141412d2b3141202c2041,S1:,A:}\n" ≡ true
unfolding agrees
v058 = refl

v059 : agrees "         PROGRAM TEST1\n         NUMBER N\nLOOP     N=(6)-NUMBER(A)-(51)\n         BACKSCAN A$N[A$1,(B$1),(B$2),STRING(1,N),\"2\"]\n* COMMENT 1\n         B= \nL1       N=9+0\n         A$3=B\n         A=B$N\nL3       SCAN B[(A$3),\"\"\",(A$0),(A$0),(A)]=STRING(N)\nL2      +IF(8<>N)\n         /L3,L3\n DONE    N=(-(N)*40)\n* COMMENT 0\n X9      END\n" "+AB-++21B 1A\n+\n\n1\n" "step 1: n=0 notes=1 split=- trials=0 in=0 out=0 state=running next=4 held=[] numbers={N:-45} strings={A:,B:}\nstep 2: n=17 notes=0 split=- trials=0 in=0 out=0 state=stopped next=4 held=[] numbers={N:-45} strings={A:,B:}\n" ≡ true
unfolding agrees
v059 = refl

v060 : agrees "         PROGRAM LOTS\n         NUMBER N,M,I\n         PRINT TEXTLONG$0004\nL3       BACKSCAN A  [\"0\",\"3\",(B$000)]=STRING(I),\"12,=A0((B$/3\"/,X9\n DONE    SCAN C[(S1),(S1)]/L2,X9\n         I=I                                                            SEQ63353\nX9       IF(NULL(TEXTLONG))/,L1\n* COMMENT 7\n         IF(NULL(A))/L1,L1\nL1       WRITE(61) C\n* COMMENT 9\n        1N=+3195*(1*3+NUMBER(C$5)+9/(I)*NUMBER(C)*(4*M)*LENGTH(LINE))*(I\n         )\n LOOP    B =\"\"\",  \"22A2+$$$3, +\",\",\"\n         C$3=\n         BACKSCAN TEXTLONG[STRING(I),STRING(N,N),B]\nL2       END\n" "-\n+02+B+A,2, -,22-,+A,A-1+10 ,2, 2AA,-+1BA\n" "step 1: n=0 notes=0 split=- trials=0 in=0 out=0 state=running next=4 held=[] numbers={N:0,M:0,I:0} strings={TEXTLONG:,A:,B:,C:,S1:,LINE:}\nstep 2: n=0 notes=0 split=- trials=1 in=0 out=0 state=running next=7 held=[] numbers={N:0,M:0,I:0} strings={TEXTLONG:,A:,B:,C:,S1:,LINE:}\nstep 3: n=0 notes=0 split=- trials=0 in=0 out=0 state=running next=9 held=[] numbers={N:0,M:0,I:0} strings={TEXTLONG:,A:,B:,C:,S1:,LINE:}\nstep 4: n=0 notes=0 split=- trials=0 in=0 out=0 state=running next=10 held=[] numbers={N:0,M:0,I:0} strings={TEXTLONG:,A:,B:,C:,S1:,LINE:}\nstep 5: n=0 notes=0 split=- trials=0 in=0 out=0 state=running next=12 held=[] numbers={N:0,M:0,I:0} strings={TEXTLONG:,A:,B:,C:,S1:,LINE:}\nstep 6: n=18 notes=0 split=- trials=0 in=0 out=0 state=stopped next=12 held=[] numbers={N:0,M:0,I:0} strings={TEXTLONG:,A:,B:,C:,S1:,LINE:}\n" ≡ true
unfolding agrees
v060 = refl

v061 : agrees "         PROG  RAM LOT  S\n         NUMBER N,M,I\nL1       A=C $N\n L2      A=LINE$1\n                                                                        SEQ\nL3       B=\" \"                                                          SEQ75044\nLOOP     B=STRING(M),\"2B,1,\",LINE$2\nX9       I=3\n DONE    END\n" "\n1ABA12\n" "step 1: n=0 notes=0 split=- trials=0 in=0 out=0 state=running next=4 held=[] numbers={N:0,M:0,I:0} strings={A:,C:,LINE:,B:}\nstep 2: n=0 notes=0 split=- trials=0 in=0 out=0 state=running next=6 held=[] numbers={N:0,M:0,I:0} strings={A:,C:,LINE:,B:}\nstep 3: n=0 notes=0 split=- trials=0 in=0 out=0 state=running next=7 held=[] numbers={N:0,M:0,I:0} strings={A:,C:,LINE:,B:20}\nstep 4: n=0 notes=0 split=- trials=0 in=0 out=0 state=running next=8 held=[] numbers={N:0,M:0,I:0} strings={A:,C:,LINE:,B:3032422c312c}\nstep 5: n=0 notes=0 split=- trials=0 in=0 out=0 state=running next=9 held=[] numbers={N:0,M:0,I:3} strings={A:,C:,LINE:,B:3032422c312c}\nstep 6: n=0 notes=0 split=- trials=0 in=0 out=0 state=finished next=9 held=[] numbers={N:0,M:0,I:3} strings={A:,C:,LINE:,B:3032422c312c}\n" ≡ true
unfolding agrees
v061 = refl

v062 : agrees "         PROG  RAM P\n         N UMBER M  ,I\n X9     +SCAN TEXT\n        1LONG[(A$1\n IGNOREDC),STRING(\n        CM)]=\"3\",S\n IGNORED+TRING(-6,\n         I)/,X9\n        CSCA N TEXTLONG[(L INE$2),B,  A$M,(B),TE  XTLONG$5,(A$ 0 ),\"1\"]=\n         STRING( -4  , I),ST  RI  NG(I),C ,STR  ING(0,I)/X9,L2          SEQ44986\n         ROUTINE R2\n DONE    C=STRING(M)\nL1       LINE=\nLOOP     ENDROUT I N E\nL2       ROUTINE R1\n         WRITE(61) LINE\n        *S  CAN L  INE[\"\"\",(C$00  0 1 ),  LEN GTH$0  ,\"-)\",(LENGT H)  ]=SEQ30935\n         C,TE  XTLONG , C $2 /,L3\n        1BACKSC AN C[LE  NGTH\n        X$  2,L I  NE$3,B,A ,\n        +(TEXTL  ONG) ,(LINE \n        1 ),(TEXTL  ON  G )  \n        X]=ST  RING(-7,I),\"B\"\n         ,TEXTLONG$ 6\n* COMMENT 0\n L3      WRITE(6 1 )   \",B\",C$I  ,LINE$3,\"2+B2+(+*)=/,\"                 SEQ60017\n         ENDROUTINE\n         IF(NUMERIC(A))/L2,L2\n         END \n" "-2A-11\n,+A1B1\n,1AA02A2 +A AA0, 2-,++01,22,-2++A+AB0A++\n\n" "step 1: n=0 notes=0 split=- trials=1 in=0 out=0 state=running next=3 held=[] numbers={M:0,I:0} strings={TEXTLONG:,A:,LINE:,B:,C:,LENGTH:}\nstep 2: n=0 notes=0 split=- trials=1 in=0 out=0 state=running next=3 held=[] numbers={M:0,I:0} strings={TEXTLONG:,A:,LINE:,B:,C:,LENGTH:}\nstep 3: n=0 notes=0 split=- trials=1 in=0 out=0 state=running next=3 held=[] numbers={M:0,I:0} strings={TEXTLONG:,A:,LINE:,B:,C:,LENGTH:}\nstep 4: n=0 notes=0 split=- trials=1 in=0 out=0 state=running next=3 held=[] numbers={M:0,I:0} strings={TEXTLONG:,A:,LINE:,B:,C:,LENGTH:}\nstep 5: n=0 notes=0 split=- trials=1 in=0 out=0 state=running next=3 held=[] numbers={M:0,I:0} strings={TEXTLONG:,A:,LINE:,B:,C:,LENGTH:}\nstep 6: n=0 notes=0 split=- trials=1 in=0 out=0 state=running next=3 held=[] numbers={M:0,I:0} strings={TEXTLONG:,A:,LINE:,B:,C:,LENGTH:}\nstep 7: n=0 notes=0 split=- trials=1 in=0 out=0 state=running next=3 held=[] numbers={M:0,I:0} strings={TEXTLONG:,A:,LINE:,B:,C:,LENGTH:}\nstep 8: n=0 notes=0 split=- trials=1 in=0 out=0 state=running next=3 held=[] numbers={M:0,I:0} strings={TEXTLONG:,A:,LINE:,B:,C:,LENGTH:}\nstep 9: n=0 notes=0 split=- trials=1 in=0 out=0 state=running next=3 held=[] numbers={M:0,I:0} strings={TEXTLONG:,A:,LINE:,B:,C:,LENGTH:}\nstep 10: n=0 notes=0 split=- trials=1 in=0 out=0 state=running next=3 held=[] numbers={M:0,I:0} strings={TEXTLONG:,A:,LINE:,B:,C:,LENGTH:}\nstep 11: n=0 notes=0 split=- trials=1 in=0 out=0 state=running next=3 held=[] numbers={M:0,I:0} strings={TEXTLONG:,A:,LINE:,B:,C:,LENGTH:}\nstep 12: n=0 notes=0 split=- trials=1 in=0 out=0 state=running next=3 held=[] numbers={M:0,I:0} strings={TEXTLONG:,A:,LINE:,B:,C:,LENGTH:}\nstep 13: n=0 notes=0 split=- trials=1 in=0 out=0 state=running next=3 held=[] numbers={M:0,I:0} strings={TEXTLONG:,A:,LINE:,B:,C:,LENGTH:}\nstep 14: n=0 notes=0 split=- trials=1 in=0 out=0 state=running next=3 held=[] numbers={M:0,I:0} strings={TEXTLONG:,A:,LINE:,B:,C:,LENGTH:}\nstep 15: n=0 notes=0 split=- trials=1 in=0 out=0 state=running next=3 held=[] numbers={M:0,I:0} strings={TEXTLONG:,A:,LINE:,B:,C:,LENGTH:}\nstep 16: n=0 notes=0 split=- trials=1 in=0 out=0 state=running next=3 held=[] numbers={M:0,I:0} strings={TEXTLONG:,A:,LINE:,B:,C:,LENGTH:}\nstep 17: n=0 notes=0 split=- trials=1 in=0 out=0 state=running next=3 held=[] numbers={M:0,I:0} strings={TEXTLONG:,A:,LINE:,B:,C:,LENGTH:}\nstep 18: n=0 notes=0 split=- trials=1 in=0 out=0 state=running next=3 held=[] numbers={M:0,I:0} strings={TEXTLONG:,A:,LINE:,B:,C:,LENGTH:}\nstep 19: n=0 notes=0 split=- trials=1 in=0 out=0 state=running next=3 held=[] numbers={M:0,I:0} strings={TEXTLONG:,A:,LINE:,B:,C:,LENGTH:}\nstep 20: n=0 notes=0 split=- trials=1 in=0 out=0 state=running next=3 held=[] numbers={M:0,I:0} strings={TEXTLONG:,A:,LINE:,B:,C:,LENGTH:}\nstep 21: n=0 notes=0 split=- trials=1 in=0 out=0 state=running next=3 held=[] numbers={M:0,I:0} strings={TEXTLONG:,A:,LINE:,B:,C:,LENGTH:}\nstep 22: n=0 notes=0 split=- trials=1 in=0 out=0 state=running next=3 held=[] numbers={M:0,I:0} strings={TEXTLONG:,A:,LINE:,B:,C:,LENGTH:}\nstep 23: n=0 notes=0 split=- trials=1 in=0 out=0 state=running next=3 held=[] numbers={M:0,I:0} strings={TEXTLONG:,A:,LINE:,B:,C:,LENGTH:}\nstep 24: n=0 notes=0 split=- trials=1 in=0 out=0 state=running next=3 held=[] numbers={M:0,I:0} strings={TEXTLONG:,A:,LINE:,B:,C:,LENGTH:}\nstep 25: n=0 notes=0 split=- trials=1 in=0 out=0 state=running next=3 held=[] numbers={M:0,I:0} strings={TEXTLONG:,A:,LINE:,B:,C:,LENGTH:}\nstep 26: n=0 notes=0 split=- trials=1 in=0 out=0 state=running next=3 held=[] numbers={M:0,I:0} strings={TEXTLONG:,A:,LINE:,B:,C:,LENGTH:}\nstep 27: n=0 notes=0 split=- trials=1 in=0 out=0 state=running next=3 held=[] numbers={M:0,I:0} strings={TEXTLONG:,A:,LINE:,B:,C:,LENGTH:}\nstep 28: n=0 notes=0 split=- trials=1 in=0 out=0 state=running next=3 held=[] numbers={M:0,I:0} strings={TEXTLONG:,A:,LINE:,B:,C:,LENGTH:}\nstep 29: n=0 notes=0 split=- trials=1 in=0 out=0 state=running next=3 held=[] numbers={M:0,I:0} strings={TEXTLONG:,A:,LINE:,B:,C:,LENGTH:}\nstep 30: n=0 notes=0 split=- trials=1 in=0 out=0 state=running next=3 held=[] numbers={M:0,I:0} strings={TEXTLONG:,A:,LINE:,B:,C:,LENGTH:}\nstep 31: n=0 notes=0 split=- trials=1 in=0 out=0 state=running next=3 held=[] numbers={M:0,I:0} strings={TEXTLONG:,A:,LINE:,B:,C:,LENGTH:}\nstep 32: n=0 notes=0 split=- trials=1 in=0 out=0 state=running next=3 held=[] numbers={M:0,I:0} strings={TEXTLONG:,A:,LINE:,B:,C:,LENGTH:}\nstep 33: n=0 notes=0 split=- trials=1 in=0 out=0 state=running next=3 held=[] numbers={M:0,I:0} strings={TEXTLONG:,A:,LINE:,B:,C:,LENGTH:}\nstep 34: n=0 notes=0 split=- trials=1 in=0 out=0 state=running next=3 held=[] numbers={M:0,I:0} strings={TEXTLONG:,A:,LINE:,B:,C:,LENGTH:}\nstep 35: n=0 notes=0 split=- trials=1 in=0 out=0 state=running next=3 held=[] numbers={M:0,I:0} strings={TEXTLONG:,A:,LINE:,B:,C:,LENGTH:}\nstep 36: n=0 notes=0 split=- trials=1 in=0 out=0 state=running next=3 held=[] numbers={M:0,I:0} strings={TEXTLONG:,A:,LINE:,B:,C:,LENGTH:}\nstep 37: n=0 notes=0 split=- trials=1 in=0 out=0 state=running next=3 held=[] numbers={M:0,I:0} strings={TEXTLONG:,A:,LINE:,B:,C:,LENGTH:}\nstep 38: n=0 notes=0 split=- trials=1 in=0 out=0 state=running next=3 held=[] numbers={M:0,I:0} strings={TEXTLONG:,A:,LINE:,B:,C:,LENGTH:}\nstep 39: n=0 notes=0 split=- trials=1 in=0 out=0 state=running next=3 held=[] numbers={M:0,I:0} strings={TEXTLONG:,A:,LINE:,B:,C:,LENGTH:}\nstep 40: n=0 notes=0 split=- trials=1 in=0 out=0 state=running next=3 held=[] numbers={M:0,I:0} strings={TEXTLONG:,A:,LINE:,B:,C:,LENGTH:}\nstep 41: n=0 notes=0 split=- trials=1 in=0 out=0 state=running next=3 held=[] numbers={M:0,I:0} strings={TEXTLONG:,A:,LINE:,B:,C:,LENGTH:}\nstep 42: n=0 notes=0 split=- trials=1 in=0 out=0 state=running next=3 held=[] numbers={M:0,I:0} strings={TEXTLONG:,A:,LINE:,B:,C:,LENGTH:}\nstep 43: n=0 notes=0 split=- trials=1 in=0 out=0 state=running next=3 held=[] numbers={M:0,I:0} strings={TEXTLONG:,A:,LINE:,B:,C:,LENGTH:}\nstep 44: n=0 notes=0 split=- trials=1 in=0 out=0 state=running next=3 held=[] numbers={M:0,I:0} strings={TEXTLONG:,A:,LINE:,B:,C:,LENGTH:}\nstep 45: n=0 notes=0 split=- trials=1 in=0 out=0 state=running next=3 held=[] numbers={M:0,I:0} strings={TEXTLONG:,A:,LINE:,B:,C:,LENGTH:}\nstep 46: n=0 notes=0 split=- trials=1 in=0 out=0 state=running next=3 held=[] numbers={M:0,I:0} strings={TEXTLONG:,A:,LINE:,B:,C:,LENGTH:}\nstep 47: n=0 notes=0 split=- trials=1 in=0 out=0 state=running next=3 held=[] numbers={M:0,I:0} strings={TEXTLONG:,A:,LINE:,B:,C:,LENGTH:}\nstep 48: n=0 notes=0 split=- trials=1 in=0 out=0 state=running next=3 held=[] numbers={M:0,I:0} strings={TEXTLONG:,A:,LINE:,B:,C:,LENGTH:}\nstep 49: n=0 notes=0 split=- trials=1 in=0 out=0 state=running next=3 held=[] numbers={M:0,I:0} strings={TEXTLONG:,A:,LINE:,B:,C:,LENGTH:}\nstep 50: n=0 notes=0 split=- trials=1 in=0 out=0 state=running next=3 held=[] numbers={M:0,I:0} strings={TEXTLONG:,A:,LINE:,B:,C:,LENGTH:}\nstep 51: n=0 notes=0 split=- trials=1 in=0 out=0 state=running next=3 held=[] numbers={M:0,I:0} strings={TEXTLONG:,A:,LINE:,B:,C:,LENGTH:}\nstep 52: n=0 notes=0 split=- trials=1 in=0 out=0 state=running next=3 held=[] numbers={M:0,I:0} strings={TEXTLONG:,A:,LINE:,B:,C:,LENGTH:}\nstep 53: n=0 notes=0 split=- trials=1 in=0 out=0 state=running next=3 held=[] numbers={M:0,I:0} strings={TEXTLONG:,A:,LINE:,B:,C:,LENGTH:}\nstep 54: n=0 notes=0 split=- trials=1 in=0 out=0 state=running next=3 held=[] numbers={M:0,I:0} strings={TEXTLONG:,A:,LINE:,B:,C:,LENGTH:}\nstep 55: n=0 notes=0 split=- trials=1 in=0 out=0 state=running next=3 held=[] numbers={M:0,I:0} strings={TEXTLONG:,A:,LINE:,B:,C:,LENGTH:}\nstep 56: n=0 notes=0 split=- trials=1 in=0 out=0 state=running next=3 held=[] numbers={M:0,I:0} strings={TEXTLONG:,A:,LINE:,B:,C:,LENGTH:}\nstep 57: n=0 notes=0 split=- trials=1 in=0 out=0 state=running next=3 held=[] numbers={M:0,I:0} strings={TEXTLONG:,A:,LINE:,B:,C:,LENGTH:}\nstep 58: n=0 notes=0 split=- trials=1 in=0 out=0 state=running next=3 held=[] numbers={M:0,I:0} strings={TEXTLONG:,A:,LINE:,B:,C:,LENGTH:}\nstep 59: n=0 notes=0 split=- trials=1 in=0 out=0 state=running next=3 held=[] numbers={M:0,I:0} strings={TEXTLONG:,A:,LINE:,B:,C:,LENGTH:}\nstep 60: n=0 notes=0 split=- trials=1 in=0 out=0 state=running next=3 held=[] numbers={M:0,I:0} strings={TEXTLONG:,A:,LINE:,B:,C:,LENGTH:}\n" ≡ true
unfolding agrees
v062 = refl

v063 : agrees "         PROGRAM TEST1\n         NUMBER N,M,I, K9,COUNT\n        1SCAN B[(S1$1),(C)]=\n         STRING(I)\n\nLOOP     IF(NULL(A))/LOOP,L1\n L1      SCAN  LI N  E[S1,(B  $3),(  C) ,(C$ 3)]/L1 ,X9\n         ROUTINE R1                                                     SEQ09244\n         BACKSC  A  N C[  \"1\"]/L2\n L3     +BACKSCAN A$K9[\"BA\",\n         (LINE)]=B/L2,L3\n         A=ST  RING(N),L  INE , \",A\"\nDONE     RETURN\nL2       ENDROUTINE\n        1K9=+5976544/(\n         (+4976883)+5)\nX9       END\n" "+\n2A, A,\n20,12-A 1021\n\n" "step 1: n=0 notes=0 split=- trials=1 in=0 out=0 state=running next=6 held=[] numbers={N:0,M:0,I:0,K9:0,COUNT:0} strings={B:,S1:,C:,A:,LINE:}\nstep 2: n=0 notes=0 split=- trials=0 in=0 out=0 state=running next=6 held=[] numbers={N:0,M:0,I:0,K9:0,COUNT:0} strings={B:,S1:,C:,A:,LINE:}\nstep 3: n=0 notes=0 split=- trials=0 in=0 out=0 state=running next=6 held=[] numbers={N:0,M:0,I:0,K9:0,COUNT:0} strings={B:,S1:,C:,A:,LINE:}\nstep 4: n=0 notes=0 split=- trials=0 in=0 out=0 state=running next=6 held=[] numbers={N:0,M:0,I:0,K9:0,COUNT:0} strings={B:,S1:,C:,A:,LINE:}\nstep 5: n=0 notes=0 split=- trials=0 in=0 out=0 state=running next=6 held=[] numbers={N:0,M:0,I:0,K9:0,COUNT:0} strings={B:,S1:,C:,A:,LINE:}\nstep 6: n=0 notes=0 split=- trials=0 in=0 out=0 state=running next=6 held=[] numbers={N:0,M:0,I:0,K9:0,COUNT:0} strings={B:,S1:,C:,A:,LINE:}\nstep 7: n=0 notes=0 split=- trials=0 in=0 out=0 state=running next=6 held=[] numbers={N:0,M:0,I:0,K9:0,COUNT:0} strings={B:,S1:,C:,A:,LINE:}\nstep 8: n=0 notes=0 split=- trials=0 in=0 out=0 state=running next=6 held=[] numbers={N:0,M:0,I:0,K9:0,COUNT:0} strings={B:,S1:,C:,A:,LINE:}\nstep 9: n=0 notes=0 split=- trials=0 in=0 out=0 state=running next=6 held=[] numbers={N:0,M:0,I:0,K9:0,COUNT:0} strings={B:,S1:,C:,A:,LINE:}\nstep 10: n=0 notes=0 split=- trials=0 in=0 out=0 state=running next=6 held=[] numbers={N:0,M:0,I:0,K9:0,COUNT:0} strings={B:,S1:,C:,A:,LINE:}\nstep 11: n=0 notes=0 split=- trials=0 in=0 out=0 state=running next=6 held=[] numbers={N:0,M:0,I:0,K9:0,COUNT:0} strings={B:,S1:,C:,A:,LINE:}\nstep 12: n=0 notes=0 split=- trials=0 in=0 out=0 state=running next=6 held=[] numbers={N:0,M:0,I:0,K9:0,COUNT:0} strings={B:,S1:,C:,A:,LINE:}\nstep 13: n=0 notes=0 split=- trials=0 in=0 out=0 state=running next=6 held=[] numbers={N:0,M:0,I:0,K9:0,COUNT:0} strings={B:,S1:,C:,A:,LINE:}\nstep 14: n=0 notes=0 split=- trials=0 in=0 out=0 state=running next=6 held=[] numbers={N:0,M:0,I:0,K9:0,COUNT:0} strings={B:,S1:,C:,A:,LINE:}\nstep 15: n=0 notes=0 split=- trials=0 in=0 out=0 state=running next=6 held=[] numbers={N:0,M:0,I:0,K9:0,COUNT:0} strings={B:,S1:,C:,A:,LINE:}\nstep 16: n=0 notes=0 split=- trials=0 in=0 out=0 state=running next=6 held=[] numbers={N:0,M:0,I:0,K9:0,COUNT:0} strings={B:,S1:,C:,A:,LINE:}\nstep 17: n=0 notes=0 split=- trials=0 in=0 out=0 state=running next=6 held=[] numbers={N:0,M:0,I:0,K9:0,COUNT:0} strings={B:,S1:,C:,A:,LINE:}\nstep 18: n=0 notes=0 split=- trials=0 in=0 out=0 state=running next=6 held=[] numbers={N:0,M:0,I:0,K9:0,COUNT:0} strings={B:,S1:,C:,A:,LINE:}\nstep 19: n=0 notes=0 split=- trials=0 in=0 out=0 state=running next=6 held=[] numbers={N:0,M:0,I:0,K9:0,COUNT:0} strings={B:,S1:,C:,A:,LINE:}\nstep 20: n=0 notes=0 split=- trials=0 in=0 out=0 state=running next=6 held=[] numbers={N:0,M:0,I:0,K9:0,COUNT:0} strings={B:,S1:,C:,A:,LINE:}\nstep 21: n=0 notes=0 split=- trials=0 in=0 out=0 state=running next=6 held=[] numbers={N:0,M:0,I:0,K9:0,COUNT:0} strings={B:,S1:,C:,A:,LINE:}\nstep 22: n=0 notes=0 split=- trials=0 in=0 out=0 state=running next=6 held=[] numbers={N:0,M:0,I:0,K9:0,COUNT:0} strings={B:,S1:,C:,A:,LINE:}\nstep 23: n=0 notes=0 split=- trials=0 in=0 out=0 state=running next=6 held=[] numbers={N:0,M:0,I:0,K9:0,COUNT:0} strings={B:,S1:,C:,A:,LINE:}\nstep 24: n=0 notes=0 split=- trials=0 in=0 out=0 state=running next=6 held=[] numbers={N:0,M:0,I:0,K9:0,COUNT:0} strings={B:,S1:,C:,A:,LINE:}\nstep 25: n=0 notes=0 split=- trials=0 in=0 out=0 state=running next=6 held=[] numbers={N:0,M:0,I:0,K9:0,COUNT:0} strings={B:,S1:,C:,A:,LINE:}\nstep 26: n=0 notes=0 split=- trials=0 in=0 out=0 state=running next=6 held=[] numbers={N:0,M:0,I:0,K9:0,COUNT:0} strings={B:,S1:,C:,A:,LINE:}\nstep 27: n=0 notes=0 split=- trials=0 in=0 out=0 state=running next=6 held=[] numbers={N:0,M:0,I:0,K9:0,COUNT:0} strings={B:,S1:,C:,A:,LINE:}\nstep 28: n=0 notes=0 split=- trials=0 in=0 out=0 state=running next=6 held=[] numbers={N:0,M:0,I:0,K9:0,COUNT:0} strings={B:,S1:,C:,A:,LINE:}\nstep 29: n=0 notes=0 split=- trials=0 in=0 out=0 state=running next=6 held=[] numbers={N:0,M:0,I:0,K9:0,COUNT:0} strings={B:,S1:,C:,A:,LINE:}\nstep 30: n=0 notes=0 split=- trials=0 in=0 out=0 state=running next=6 held=[] numbers={N:0,M:0,I:0,K9:0,COUNT:0} strings={B:,S1:,C:,A:,LINE:}\nstep 31: n=0 notes=0 split=- trials=0 in=0 out=0 state=running next=6 held=[] numbers={N:0,M:0,I:0,K9:0,COUNT:0} strings={B:,S1:,C:,A:,LINE:}\nstep 32: n=0 notes=0 split=- trials=0 in=0 out=0 state=running next=6 held=[] numbers={N:0,M:0,I:0,K9:0,COUNT:0} strings={B:,S1:,C:,A:,LINE:}\nstep 33: n=0 notes=0 split=- trials=0 in=0 out=0 state=running next=6 held=[] numbers={N:0,M:0,I:0,K9:0,COUNT:0} strings={B:,S1:,C:,A:,LINE:}\nstep 34: n=0 notes=0 split=- trials=0 in=0 out=0 state=running next=6 held=[] numbers={N:0,M:0,I:0,K9:0,COUNT:0} strings={B:,S1:,C:,A:,LINE:}\nstep 35: n=0 notes=0 split=- trials=0 in=0 out=0 state=running next=6 held=[] numbers={N:0,M:0,I:0,K9:0,COUNT:0} strings={B:,S1:,C:,A:,LINE:}\nstep 36: n=0 notes=0 split=- trials=0 in=0 out=0 state=running next=6 held=[] numbers={N:0,M:0,I:0,K9:0,COUNT:0} strings={B:,S1:,C:,A:,LINE:}\nstep 37: n=0 notes=0 split=- trials=0 in=0 out=0 state=running next=6 held=[] numbers={N:0,M:0,I:0,K9:0,COUNT:0} strings={B:,S1:,C:,A:,LINE:}\nstep 38: n=0 notes=0 split=- trials=0 in=0 out=0 state=running next=6 held=[] numbers={N:0,M:0,I:0,K9:0,COUNT:0} strings={B:,S1:,C:,A:,LINE:}\nstep 39: n=0 notes=0 split=- trials=0 in=0 out=0 state=running next=6 held=[] numbers={N:0,M:0,I:0,K9:0,COUNT:0} strings={B:,S1:,C:,A:,LINE:}\nstep 40: n=0 notes=0 split=- trials=0 in=0 out=0 state=running next=6 held=[] numbers={N:0,M:0,I:0,K9:0,COUNT:0} strings={B:,S1:,C:,A:,LINE:}\nstep 41: n=0 notes=0 split=- trials=0 in=0 out=0 state=running next=6 held=[] numbers={N:0,M:0,I:0,K9:0,COUNT:0} strings={B:,S1:,C:,A:,LINE:}\nstep 42: n=0 notes=0 split=- trials=0 in=0 out=0 state=running next=6 held=[] numbers={N:0,M:0,I:0,K9:0,COUNT:0} strings={B:,S1:,C:,A:,LINE:}\nstep 43: n=0 notes=0 split=- trials=0 in=0 out=0 state=running next=6 held=[] numbers={N:0,M:0,I:0,K9:0,COUNT:0} strings={B:,S1:,C:,A:,LINE:}\nstep 44: n=0 notes=0 split=- trials=0 in=0 out=0 state=running next=6 held=[] numbers={N:0,M:0,I:0,K9:0,COUNT:0} strings={B:,S1:,C:,A:,LINE:}\nstep 45: n=0 notes=0 split=- trials=0 in=0 out=0 state=running next=6 held=[] numbers={N:0,M:0,I:0,K9:0,COUNT:0} strings={B:,S1:,C:,A:,LINE:}\nstep 46: n=0 notes=0 split=- trials=0 in=0 out=0 state=running next=6 held=[] numbers={N:0,M:0,I:0,K9:0,COUNT:0} strings={B:,S1:,C:,A:,LINE:}\nstep 47: n=0 notes=0 split=- trials=0 in=0 out=0 state=running next=6 held=[] numbers={N:0,M:0,I:0,K9:0,COUNT:0} strings={B:,S1:,C:,A:,LINE:}\nstep 48: n=0 notes=0 split=- trials=0 in=0 out=0 state=running next=6 held=[] numbers={N:0,M:0,I:0,K9:0,COUNT:0} strings={B:,S1:,C:,A:,LINE:}\nstep 49: n=0 notes=0 split=- trials=0 in=0 out=0 state=running next=6 held=[] numbers={N:0,M:0,I:0,K9:0,COUNT:0} strings={B:,S1:,C:,A:,LINE:}\nstep 50: n=0 notes=0 split=- trials=0 in=0 out=0 state=running next=6 held=[] numbers={N:0,M:0,I:0,K9:0,COUNT:0} strings={B:,S1:,C:,A:,LINE:}\nstep 51: n=0 notes=0 split=- trials=0 in=0 out=0 state=running next=6 held=[] numbers={N:0,M:0,I:0,K9:0,COUNT:0} strings={B:,S1:,C:,A:,LINE:}\nstep 52: n=0 notes=0 split=- trials=0 in=0 out=0 state=running next=6 held=[] numbers={N:0,M:0,I:0,K9:0,COUNT:0} strings={B:,S1:,C:,A:,LINE:}\nstep 53: n=0 notes=0 split=- trials=0 in=0 out=0 state=running next=6 held=[] numbers={N:0,M:0,I:0,K9:0,COUNT:0} strings={B:,S1:,C:,A:,LINE:}\nstep 54: n=0 notes=0 split=- trials=0 in=0 out=0 state=running next=6 held=[] numbers={N:0,M:0,I:0,K9:0,COUNT:0} strings={B:,S1:,C:,A:,LINE:}\nstep 55: n=0 notes=0 split=- trials=0 in=0 out=0 state=running next=6 held=[] numbers={N:0,M:0,I:0,K9:0,COUNT:0} strings={B:,S1:,C:,A:,LINE:}\nstep 56: n=0 notes=0 split=- trials=0 in=0 out=0 state=running next=6 held=[] numbers={N:0,M:0,I:0,K9:0,COUNT:0} strings={B:,S1:,C:,A:,LINE:}\nstep 57: n=0 notes=0 split=- trials=0 in=0 out=0 state=running next=6 held=[] numbers={N:0,M:0,I:0,K9:0,COUNT:0} strings={B:,S1:,C:,A:,LINE:}\nstep 58: n=0 notes=0 split=- trials=0 in=0 out=0 state=running next=6 held=[] numbers={N:0,M:0,I:0,K9:0,COUNT:0} strings={B:,S1:,C:,A:,LINE:}\nstep 59: n=0 notes=0 split=- trials=0 in=0 out=0 state=running next=6 held=[] numbers={N:0,M:0,I:0,K9:0,COUNT:0} strings={B:,S1:,C:,A:,LINE:}\nstep 60: n=0 notes=0 split=- trials=0 in=0 out=0 state=running next=6 held=[] numbers={N:0,M:0,I:0,K9:0,COUNT:0} strings={B:,S1:,C:,A:,LINE:}\n" ≡ true
unfolding agrees
v063 = refl

v064 : agrees "         PROGRAM P\n         NUMBER N,M\nL1       TEXTLONG=\"B\"\nX9       TEX  T  LONG  =TEXTL ONG  $6,STRING( M  )\nL3       SCAN C[F,STRING(2,N),G$5]=\"A\",C/,L1                            SEQ51537\nDONE     LINE=C,\"2\"\nLOOP     C=\nL2       END\n" "" "step 1: n=0 notes=0 split=- trials=0 in=0 out=0 state=running next=4 held=[] numbers={N:0,M:0} strings={TEXTLONG:42,C:,F:,G:,LINE:}\nstep 2: n=0 notes=0 split=- trials=0 in=0 out=0 state=running next=5 held=[] numbers={N:0,M:0} strings={TEXTLONG:4230,C:,F:,G:,LINE:}\nstep 3: n=0 notes=0 split=- trials=2 in=0 out=0 state=running next=3 held=[] numbers={N:0,M:0} strings={TEXTLONG:4230,C:,F:,G:,LINE:}\nstep 4: n=0 notes=0 split=- trials=0 in=0 out=0 state=running next=4 held=[] numbers={N:0,M:0} strings={TEXTLONG:42,C:,F:,G:,LINE:}\nstep 5: n=0 notes=0 split=- trials=0 in=0 out=0 state=running next=5 held=[] numbers={N:0,M:0} strings={TEXTLONG:4230,C:,F:,G:,LINE:}\nstep 6: n=0 notes=0 split=- trials=2 in=0 out=0 state=running next=3 held=[] numbers={N:0,M:0} strings={TEXTLONG:4230,C:,F:,G:,LINE:}\nstep 7: n=0 notes=0 split=- trials=0 in=0 out=0 state=running next=4 held=[] numbers={N:0,M:0} strings={TEXTLONG:42,C:,F:,G:,LINE:}\nstep 8: n=0 notes=0 split=- trials=0 in=0 out=0 state=running next=5 held=[] numbers={N:0,M:0} strings={TEXTLONG:4230,C:,F:,G:,LINE:}\nstep 9: n=0 notes=0 split=- trials=2 in=0 out=0 state=running next=3 held=[] numbers={N:0,M:0} strings={TEXTLONG:4230,C:,F:,G:,LINE:}\nstep 10: n=0 notes=0 split=- trials=0 in=0 out=0 state=running next=4 held=[] numbers={N:0,M:0} strings={TEXTLONG:42,C:,F:,G:,LINE:}\nstep 11: n=0 notes=0 split=- trials=0 in=0 out=0 state=running next=5 held=[] numbers={N:0,M:0} strings={TEXTLONG:4230,C:,F:,G:,LINE:}\nstep 12: n=0 notes=0 split=- trials=2 in=0 out=0 state=running next=3 held=[] numbers={N:0,M:0} strings={TEXTLONG:4230,C:,F:,G:,LINE:}\nstep 13: n=0 notes=0 split=- trials=0 in=0 out=0 state=running next=4 held=[] numbers={N:0,M:0} strings={TEXTLONG:42,C:,F:,G:,LINE:}\nstep 14: n=0 notes=0 split=- trials=0 in=0 out=0 state=running next=5 held=[] numbers={N:0,M:0} strings={TEXTLONG:4230,C:,F:,G:,LINE:}\nstep 15: n=0 notes=0 split=- trials=2 in=0 out=0 state=running next=3 held=[] numbers={N:0,M:0} strings={TEXTLONG:4230,C:,F:,G:,LINE:}\nstep 16: n=0 notes=0 split=- trials=0 in=0 out=0 state=running next=4 held=[] numbers={N:0,M:0} strings={TEXTLONG:42,C:,F:,G:,LINE:}\nstep 17: n=0 notes=0 split=- trials=0 in=0 out=0 state=running next=5 held=[] numbers={N:0,M:0} strings={TEXTLONG:4230,C:,F:,G:,LINE:}\nstep 18: n=0 notes=0 split=- trials=2 in=0 out=0 state=running next=3 held=[] numbers={N:0,M:0} strings={TEXTLONG:4230,C:,F:,G:,LINE:}\nstep 19: n=0 notes=0 split=- trials=0 in=0 out=0 state=running next=4 held=[] numbers={N:0,M:0} strings={TEXTLONG:42,C:,F:,G:,LINE:}\nstep 20: n=0 notes=0 split=- trials=0 in=0 out=0 state=running next=5 held=[] numbers={N:0,M:0} strings={TEXTLONG:4230,C:,F:,G:,LINE:}\nstep 21: n=0 notes=0 split=- trials=2 in=0 out=0 state=running next=3 held=[] numbers={N:0,M:0} strings={TEXTLONG:4230,C:,F:,G:,LINE:}\nstep 22: n=0 notes=0 split=- trials=0 in=0 out=0 state=running next=4 held=[] numbers={N:0,M:0} strings={TEXTLONG:42,C:,F:,G:,LINE:}\nstep 23: n=0 notes=0 split=- trials=0 in=0 out=0 state=running next=5 held=[] numbers={N:0,M:0} strings={TEXTLONG:4230,C:,F:,G:,LINE:}\nstep 24: n=0 notes=0 split=- trials=2 in=0 out=0 state=running next=3 held=[] numbers={N:0,M:0} strings={TEXTLONG:4230,C:,F:,G:,LINE:}\nstep 25: n=0 notes=0 split=- trials=0 in=0 out=0 state=running next=4 held=[] numbers={N:0,M:0} strings={TEXTLONG:42,C:,F:,G:,LINE:}\nstep 26: n=0 notes=0 split=- trials=0 in=0 out=0 state=running next=5 held=[] numbers={N:0,M:0} strings={TEXTLONG:4230,C:,F:,G:,LINE:}\nstep 27: n=0 notes=0 split=- trials=2 in=0 out=0 state=running next=3 held=[] numbers={N:0,M:0} strings={TEXTLONG:4230,C:,F:,G:,LINE:}\nstep 28: n=0 notes=0 split=- trials=0 in=0 out=0 state=running next=4 held=[] numbers={N:0,M:0} strings={TEXTLONG:42,C:,F:,G:,LINE:}\nstep 29: n=0 notes=0 split=- trials=0 in=0 out=0 state=running next=5 held=[] numbers={N:0,M:0} strings={TEXTLONG:4230,C:,F:,G:,LINE:}\nstep 30: n=0 notes=0 split=- trials=2 in=0 out=0 state=running next=3 held=[] numbers={N:0,M:0} strings={TEXTLONG:4230,C:,F:,G:,LINE:}\nstep 31: n=0 notes=0 split=- trials=0 in=0 out=0 state=running next=4 held=[] numbers={N:0,M:0} strings={TEXTLONG:42,C:,F:,G:,LINE:}\nstep 32: n=0 notes=0 split=- trials=0 in=0 out=0 state=running next=5 held=[] numbers={N:0,M:0} strings={TEXTLONG:4230,C:,F:,G:,LINE:}\nstep 33: n=0 notes=0 split=- trials=2 in=0 out=0 state=running next=3 held=[] numbers={N:0,M:0} strings={TEXTLONG:4230,C:,F:,G:,LINE:}\nstep 34: n=0 notes=0 split=- trials=0 in=0 out=0 state=running next=4 held=[] numbers={N:0,M:0} strings={TEXTLONG:42,C:,F:,G:,LINE:}\nstep 35: n=0 notes=0 split=- trials=0 in=0 out=0 state=running next=5 held=[] numbers={N:0,M:0} strings={TEXTLONG:4230,C:,F:,G:,LINE:}\nstep 36: n=0 notes=0 split=- trials=2 in=0 out=0 state=running next=3 held=[] numbers={N:0,M:0} strings={TEXTLONG:4230,C:,F:,G:,LINE:}\nstep 37: n=0 notes=0 split=- trials=0 in=0 out=0 state=running next=4 held=[] numbers={N:0,M:0} strings={TEXTLONG:42,C:,F:,G:,LINE:}\nstep 38: n=0 notes=0 split=- trials=0 in=0 out=0 state=running next=5 held=[] numbers={N:0,M:0} strings={TEXTLONG:4230,C:,F:,G:,LINE:}\nstep 39: n=0 notes=0 split=- trials=2 in=0 out=0 state=running next=3 held=[] numbers={N:0,M:0} strings={TEXTLONG:4230,C:,F:,G:,LINE:}\nstep 40: n=0 notes=0 split=- trials=0 in=0 out=0 state=running next=4 held=[] numbers={N:0,M:0} strings={TEXTLONG:42,C:,F:,G:,LINE:}\nstep 41: n=0 notes=0 split=- trials=0 in=0 out=0 state=running next=5 held=[] numbers={N:0,M:0} strings={TEXTLONG:4230,C:,F:,G:,LINE:}\nstep 42: n=0 notes=0 split=- trials=2 in=0 out=0 state=running next=3 held=[] numbers={N:0,M:0} strings={TEXTLONG:4230,C:,F:,G:,LINE:}\nstep 43: n=0 notes=0 split=- trials=0 in=0 out=0 state=running next=4 held=[] numbers={N:0,M:0} strings={TEXTLONG:42,C:,F:,G:,LINE:}\nstep 44: n=0 notes=0 split=- trials=0 in=0 out=0 state=running next=5 held=[] numbers={N:0,M:0} strings={TEXTLONG:4230,C:,F:,G:,LINE:}\nstep 45: n=0 notes=0 split=- trials=2 in=0 out=0 state=running next=3 held=[] numbers={N:0,M:0} strings={TEXTLONG:4230,C:,F:,G:,LINE:}\nstep 46: n=0 notes=0 split=- trials=0 in=0 out=0 state=running next=4 held=[] numbers={N:0,M:0} strings={TEXTLONG:42,C:,F:,G:,LINE:}\nstep 47: n=0 notes=0 split=- trials=0 in=0 out=0 state=running next=5 held=[] numbers={N:0,M:0} strings={TEXTLONG:4230,C:,F:,G:,LINE:}\nstep 48: n=0 notes=0 split=- trials=2 in=0 out=0 state=running next=3 held=[] numbers={N:0,M:0} strings={TEXTLONG:4230,C:,F:,G:,LINE:}\nstep 49: n=0 notes=0 split=- trials=0 in=0 out=0 state=running next=4 held=[] numbers={N:0,M:0} strings={TEXTLONG:42,C:,F:,G:,LINE:}\nstep 50: n=0 notes=0 split=- trials=0 in=0 out=0 state=running next=5 held=[] numbers={N:0,M:0} strings={TEXTLONG:4230,C:,F:,G:,LINE:}\nstep 51: n=0 notes=0 split=- trials=2 in=0 out=0 state=running next=3 held=[] numbers={N:0,M:0} strings={TEXTLONG:4230,C:,F:,G:,LINE:}\nstep 52: n=0 notes=0 split=- trials=0 in=0 out=0 state=running next=4 held=[] numbers={N:0,M:0} strings={TEXTLONG:42,C:,F:,G:,LINE:}\nstep 53: n=0 notes=0 split=- trials=0 in=0 out=0 state=running next=5 held=[] numbers={N:0,M:0} strings={TEXTLONG:4230,C:,F:,G:,LINE:}\nstep 54: n=0 notes=0 split=- trials=2 in=0 out=0 state=running next=3 held=[] numbers={N:0,M:0} strings={TEXTLONG:4230,C:,F:,G:,LINE:}\nstep 55: n=0 notes=0 split=- trials=0 in=0 out=0 state=running next=4 held=[] numbers={N:0,M:0} strings={TEXTLONG:42,C:,F:,G:,LINE:}\nstep 56: n=0 notes=0 split=- trials=0 in=0 out=0 state=running next=5 held=[] numbers={N:0,M:0} strings={TEXTLONG:4230,C:,F:,G:,LINE:}\nstep 57: n=0 notes=0 split=- trials=2 in=0 out=0 state=running next=3 held=[] numbers={N:0,M:0} strings={TEXTLONG:4230,C:,F:,G:,LINE:}\nstep 58: n=0 notes=0 split=- trials=0 in=0 out=0 state=running next=4 held=[] numbers={N:0,M:0} strings={TEXTLONG:42,C:,F:,G:,LINE:}\nstep 59: n=0 notes=0 split=- trials=0 in=0 out=0 state=running next=5 held=[] numbers={N:0,M:0} strings={TEXTLONG:4230,C:,F:,G:,LINE:}\nstep 60: n=0 notes=0 split=- trials=2 in=0 out=0 state=running next=3 held=[] numbers={N:0,M:0} strings={TEXTLONG:4230,C:,F:,G:,LINE:}\n" ≡ true
unfolding agrees
v064 = refl

v065 : agrees "         PROGRAM P\n         NUMBER N,M,I,K9\n         ROUTIN E   R3\n L2      ENDROUTINE\n         R OUTINE R1\n* COMMENT 8\nX9       SCAN B[\"\"\",(S1$3),\"BB\",(C),\",BBA,2122, A\",\" 1\",(S1)]\n         N=+LENGTH(LINE)*K9-LENGTH(A)-K9+5354061                        SEQ93378\n         N=NUM  BER(C$3 )\n         EXIT\n         ENDROUTINE\nL1       SCAN B$5[(LINE$0),STRING(5,K9),(S1)]=/DONE,DONE\n         WRITE STRING(K9)\n         SCAN B$5[STRING(0,I)]/LOOP,DONE                                SEQ84582\n         ROUTINE R2\n* COMMENT 4\nL3       ENDROUTINE                                                     SEQ79906\n         M=LENGTH (LINE)*( I+I-LENGTH(C)  )-K9\n         M=2-6/165\n         K9=(LE NGTH(LINE))\n LOOP    M=(M)/2\nDONE     END\n" "" "step 1: n=0 notes=0 split=- trials=0 in=0 out=0 state=running next=5 held=[] numbers={N:0,M:0,I:0,K9:0} strings={B:,S1:,C:,LINE:,A:}\nstep 2: n=0 notes=0 split=- trials=0 in=0 out=0 state=running next=12 held=[] numbers={N:0,M:0,I:0,K9:0} strings={B:,S1:,C:,LINE:,A:}\nstep 3: n=0 notes=0 split=- trials=2 in=0 out=0 state=running next=22 held=[] numbers={N:0,M:0,I:0,K9:0} strings={B:,S1:,C:,LINE:,A:}\nstep 4: n=0 notes=0 split=- trials=0 in=0 out=0 state=finished next=22 held=[] numbers={N:0,M:0,I:0,K9:0} strings={B:,S1:,C:,LINE:,A:}\n" ≡ true
unfolding agrees
v065 = refl

v066 : agrees "         PRO  GRAM L  OTS\n         NUMBE R   N\n         A=\"B1\"\n         READ B/,X9\n         READ(60) B$6/L1,L3\n         N=405444-LENGTH(S1)\n         ROUTINE R3\nL2       IF(NUMBER(LINE)>LENGTH(S1))/,L2\n         PRINT STRING(0,N),B,\"A\"\n X9      ENDR OUTINE\n         ROUTINE R1\nL1       N=(NUMBER(C$0))                                                SEQ32844\n         WRITE   \"A\"\nLOOP     ENDROUTINE\n         WRITE STRING(N)                                                SEQ93256\n         IF(1>=9)/X9                                                    SEQ48516\n         LINE=\" \"\n         S1$N=\n         A=C,LINE$N\n         ROUT INE R2\nL3       READ A/L3\n         EXECUTE R3\nDONE     ENDROUTINE\n         END\n" "01A\nA2+A+1  -- +A01A 112+  11+1+0A +B  , A2,\n11+BA 1-,BB1\n2+,2,B\n" "REFUSED 11 0\n" ≡ true
unfolding agrees
v066 = refl

v067 : agrees "         PROGRAM LOTS\n         NUMB  ER N, M,I\n         B=B,C$I\n   \nDONE     C=A\n         M=I-218303  0/3-3\nL2       M=2082056\n         A=\"\"\",STRING(I),STRING(7,M),\"=\"\nL1       A=B$6,A,\"A\",\"/\"\n         IF(NULL(B))/,L2\n L3      SCAN C$N[(B$0)]=A/LOOP,L1\nX9       IF(NU LL(C))/X9,L3                                             SEQ29722\n         B=\")\"\n         BACKSCAN B[(C),(C),STRING(9,I),B$I,(C$N)]=B$3,C,\")=\"/,L3\n         M=49 166  9 6+ M\nLOOP     E  ND\n" "\nB\nB++A ,\n\n" "step 1: n=0 notes=0 split=- trials=0 in=0 out=0 state=running next=5 held=[] numbers={N:0,M:0,I:0} strings={B:,C:,A:}\nstep 2: n=0 notes=0 split=- trials=0 in=0 out=0 state=running next=6 held=[] numbers={N:0,M:0,I:0} strings={B:,C:,A:}\nstep 3: n=0 notes=0 split=- trials=0 in=0 out=0 state=running next=7 held=[] numbers={N:0,M:-727679,I:0} strings={B:,C:,A:}\nstep 4: n=0 notes=0 split=- trials=0 in=0 out=0 state=running next=8 held=[] numbers={N:0,M:2082056,I:0} strings={B:,C:,A:}\nstep 5: n=0 notes=0 split=- trials=0 in=0 out=0 state=running next=9 held=[] numbers={N:0,M:2082056,I:0} strings={B:,C:,A:2230323038323035363d}\nstep 6: n=0 notes=0 split=- trials=0 in=0 out=0 state=running next=10 held=[] numbers={N:0,M:2082056,I:0} strings={B:,C:,A:2230323038323035363d412f}\nstep 7: n=0 notes=0 split=- trials=0 in=0 out=0 state=running next=11 held=[] numbers={N:0,M:2082056,I:0} strings={B:,C:,A:2230323038323035363d412f}\nstep 8: n=0 notes=0 split=0;0 trials=1 in=0 out=0 state=running next=16 held=[] numbers={N:0,M:2082056,I:0} strings={B:,C:2230323038323035363d412f,A:2230323038323035363d412f}\nstep 9: n=0 notes=0 split=- trials=0 in=0 out=0 state=finished next=16 held=[] numbers={N:0,M:2082056,I:0} strings={B:,C:2230323038323035363d412f,A:2230323038323035363d412f}\n" ≡ true
unfolding agrees
v067 = refl

v068 : agrees "         PROG RAM P\n         NUMBER N,M,I,K9,COUNT\n         A=\n* COMMENT 0\n         ROUTINE R2\nLOOP     SCAN A[B,(B$M)]/LOOP\n         WRITE   \"AA\"\n         COUNT=LENGTH(A )  *NUMBER(B$M)\n        CCOUNT=K9*I/NU\n         MBER(A)\n         ENDR OUTINE                                                    SEQ64332\n         ROUTINE R1                                                     SEQ82629\n\n         S CAN A$M[\"21\"]/L2,L3\n L2     CS  CAN A$5[(  B  $  M),(B\n           ),A$2] /,L3\nL3       WRITE(61) STRING(0,I),A$3,B\n         W RI TE STRING  (7,COUNT),A $M ,A\n DONE    E NDR  OUTI  NE\n         A$0=B ,\"B1\"\n         B=STRING(-7,M)                                                 SEQ72450\nX9       BACKSCAN   A[(B$ 1),(B),(B)  ,(B $1)  ,(B$3),(B),(B  )]\nL1      XBACKSCAN B$6[A,STRING(0,M),(A),\"2\",\"\"\",(A),\"\"\"]=B$4,STRING(-5,N\n         ),B/L1,L1\n         IF(NUMBER(A)>=N)/L1,X9\n         SCAN B$5[A,STRING(N),(A)]=\"A\"                                  SEQ66828\n         I F(LENG  TH(A)<=K9)/,X9\n         END\n" "1B1,02-2 0 BA, A-0-+2AA--22,0+20AA+AAAA0\nB\n+11-+02B1BAB\n\n A1\nA1,-B2 -1,, A-12- B211- 0+,B0B00 -02 10A\n-A-BBA\n21 20+0020, A 0AB,+AA0122, -1B2- A11,B10\n" "step 1: n=0 notes=0 split=- trials=0 in=0 out=0 state=running next=5 held=[] numbers={N:0,M:0,I:0,K9:0,COUNT:0} strings={A:,B:}\nstep 2: n=0 notes=0 split=- trials=0 in=0 out=0 state=running next=12 held=[] numbers={N:0,M:0,I:0,K9:0,COUNT:0} strings={A:,B:}\nstep 3: n=0 notes=0 split=- trials=0 in=0 out=0 state=running next=20 held=[] numbers={N:0,M:0,I:0,K9:0,COUNT:0} strings={A:,B:}\nstep 4: n=0 notes=0 split=- trials=0 in=0 out=0 state=running next=21 held=[] numbers={N:0,M:0,I:0,K9:0,COUNT:0} strings={A:4231,B:}\nstep 5: n=0 notes=0 split=- trials=0 in=0 out=0 state=running next=22 held=[] numbers={N:0,M:0,I:0,K9:0,COUNT:0} strings={A:4231,B:20202020202030}\nstep 6: n=0 notes=0 split=- trials=3 in=0 out=0 state=running next=23 held=[] numbers={N:0,M:0,I:0,K9:0,COUNT:0} strings={A:4231,B:}\nstep 7: n=0 notes=0 split=- trials=1 in=0 out=0 state=running next=23 held=[] numbers={N:0,M:0,I:0,K9:0,COUNT:0} strings={A:,B:}\nstep 8: n=0 notes=0 split=- trials=2 in=0 out=0 state=running next=23 held=[] numbers={N:0,M:0,I:0,K9:0,COUNT:0} strings={A:,B:}\nstep 9: n=0 notes=0 split=- trials=2 in=0 out=0 state=running next=23 held=[] numbers={N:0,M:0,I:0,K9:0,COUNT:0} strings={A:,B:}\nstep 10: n=0 notes=0 split=- trials=2 in=0 out=0 state=running next=23 held=[] numbers={N:0,M:0,I:0,K9:0,COUNT:0} strings={A:,B:}\nstep 11: n=0 notes=0 split=- trials=2 in=0 out=0 state=running next=23 held=[] numbers={N:0,M:0,I:0,K9:0,COUNT:0} strings={A:,B:}\nstep 12: n=0 notes=0 split=- trials=2 in=0 out=0 state=running next=23 held=[] numbers={N:0,M:0,I:0,K9:0,COUNT:0} strings={A:,B:}\nstep 13: n=0 notes=0 split=- trials=2 in=0 out=0 state=running next=23 held=[] numbers={N:0,M:0,I:0,K9:0,COUNT:0} strings={A:,B:}\nstep 14: n=0 notes=0 split=- trials=2 in=0 out=0 state=running next=23 held=[] numbers={N:0,M:0,I:0,K9:0,COUNT:0} strings={A:,B:}\nstep 15: n=0 notes=0 split=- trials=2 in=0 out=0 state=running next=23 held=[] numbers={N:0,M:0,I:0,K9:0,COUNT:0} strings={A:,B:}\nstep 16: n=0 notes=0 split=- trials=2 in=0 out=0 state=running next=23 held=[] numbers={N:0,M:0,I:0,K9:0,COUNT:0} strings={A:,B:}\nstep 17: n=0 notes=0 split=- trials=2 in=0 out=0 state=running next=23 held=[] numbers={N:0,M:0,I:0,K9:0,COUNT:0} strings={A:,B:}\nstep 18: n=0 notes=0 split=- trials=2 in=0 out=0 state=running next=23 held=[] numbers={N:0,M:0,I:0,K9:0,COUNT:0} strings={A:,B:}\nstep 19: n=0 notes=0 split=- trials=2 in=0 out=0 state=running next=23 held=[] numbers={N:0,M:0,I:0,K9:0,COUNT:0} strings={A:,B:}\nstep 20: n=0 notes=0 split=- trials=2 in=0 out=0 state=running next=23 held=[] numbers={N:0,M:0,I:0,K9:0,COUNT:0} strings={A:,B:}\nstep 21: n=0 notes=0 split=- trials=2 in=0 out=0 state=running next=23 held=[] numbers={N:0,M:0,I:0,K9:0,COUNT:0} strings={A:,B:}\nstep 22: n=0 notes=0 split=- trials=2 in=0 out=0 state=running next=23 held=[] numbers={N:0,M:0,I:0,K9:0,COUNT:0} strings={A:,B:}\nstep 23: n=0 notes=0 split=- trials=2 in=0 out=0 state=running next=23 held=[] numbers={N:0,M:0,I:0,K9:0,COUNT:0} strings={A:,B:}\nstep 24: n=0 notes=0 split=- trials=2 in=0 out=0 state=running next=23 held=[] numbers={N:0,M:0,I:0,K9:0,COUNT:0} strings={A:,B:}\nstep 25: n=0 notes=0 split=- trials=2 in=0 out=0 state=running next=23 held=[] numbers={N:0,M:0,I:0,K9:0,COUNT:0} strings={A:,B:}\nstep 26: n=0 notes=0 split=- trials=2 in=0 out=0 state=running next=23 held=[] numbers={N:0,M:0,I:0,K9:0,COUNT:0} strings={A:,B:}\nstep 27: n=0 notes=0 split=- trials=2 in=0 out=0 state=running next=23 held=[] numbers={N:0,M:0,I:0,K9:0,COUNT:0} strings={A:,B:}\nstep 28: n=0 notes=0 split=- trials=2 in=0 out=0 state=running next=23 held=[] numbers={N:0,M:0,I:0,K9:0,COUNT:0} strings={A:,B:}\nstep 29: n=0 notes=0 split=- trials=2 in=0 out=0 state=running next=23 held=[] numbers={N:0,M:0,I:0,K9:0,COUNT:0} strings={A:,B:}\nstep 30: n=0 notes=0 split=- trials=2 in=0 out=0 state=running next=23 held=[] numbers={N:0,M:0,I:0,K9:0,COUNT:0} strings={A:,B:}\nstep 31: n=0 notes=0 split=- trials=2 in=0 out=0 state=running next=23 held=[] numbers={N:0,M:0,I:0,K9:0,COUNT:0} strings={A:,B:}\nstep 32: n=0 notes=0 split=- trials=2 in=0 out=0 state=running next=23 held=[] numbers={N:0,M:0,I:0,K9:0,COUNT:0} strings={A:,B:}\nstep 33: n=0 notes=0 split=- trials=2 in=0 out=0 state=running next=23 held=[] numbers={N:0,M:0,I:0,K9:0,COUNT:0} strings={A:,B:}\nstep 34: n=0 notes=0 split=- trials=2 in=0 out=0 state=running next=23 held=[] numbers={N:0,M:0,I:0,K9:0,COUNT:0} strings={A:,B:}\nstep 35: n=0 notes=0 split=- trials=2 in=0 out=0 state=running next=23 held=[] numbers={N:0,M:0,I:0,K9:0,COUNT:0} strings={A:,B:}\nstep 36: n=0 notes=0 split=- trials=2 in=0 out=0 state=running next=23 held=[] numbers={N:0,M:0,I:0,K9:0,COUNT:0} strings={A:,B:}\nstep 37: n=0 notes=0 split=- trials=2 in=0 out=0 state=running next=23 held=[] numbers={N:0,M:0,I:0,K9:0,COUNT:0} strings={A:,B:}\nstep 38: n=0 notes=0 split=- trials=2 in=0 out=0 state=running next=23 held=[] numbers={N:0,M:0,I:0,K9:0,COUNT:0} strings={A:,B:}\nstep 39: n=0 notes=0 split=- trials=2 in=0 out=0 state=running next=23 held=[] numbers={N:0,M:0,I:0,K9:0,COUNT:0} strings={A:,B:}\nstep 40: n=0 notes=0 split=- trials=2 in=0 out=0 state=running next=23 held=[] numbers={N:0,M:0,I:0,K9:0,COUNT:0} strings={A:,B:}\nstep 41: n=0 notes=0 split=- trials=2 in=0 out=0 state=running next=23 held=[] numbers={N:0,M:0,I:0,K9:0,COUNT:0} strings={A:,B:}\nstep 42: n=0 notes=0 split=- trials=2 in=0 out=0 state=running next=23 held=[] numbers={N:0,M:0,I:0,K9:0,COUNT:0} strings={A:,B:}\nstep 43: n=0 notes=0 split=- trials=2 in=0 out=0 state=running next=23 held=[] numbers={N:0,M:0,I:0,K9:0,COUNT:0} strings={A:,B:}\nstep 44: n=0 notes=0 split=- trials=2 in=0 out=0 state=running next=23 held=[] numbers={N:0,M:0,I:0,K9:0,COUNT:0} strings={A:,B:}\nstep 45: n=0 notes=0 split=- trials=2 in=0 out=0 state=running next=23 held=[] numbers={N:0,M:0,I:0,K9:0,COUNT:0} strings={A:,B:}\nstep 46: n=0 notes=0 split=- trials=2 in=0 out=0 state=running next=23 held=[] numbers={N:0,M:0,I:0,K9:0,COUNT:0} strings={A:,B:}\nstep 47: n=0 notes=0 split=- trials=2 in=0 out=0 state=running next=23 held=[] numbers={N:0,M:0,I:0,K9:0,COUNT:0} strings={A:,B:}\nstep 48: n=0 notes=0 split=- trials=2 in=0 out=0 state=running next=23 held=[] numbers={N:0,M:0,I:0,K9:0,COUNT:0} strings={A:,B:}\nstep 49: n=0 notes=0 split=- trials=2 in=0 out=0 state=running next=23 held=[] numbers={N:0,M:0,I:0,K9:0,COUNT:0} strings={A:,B:}\nstep 50: n=0 notes=0 split=- trials=2 in=0 out=0 state=running next=23 held=[] numbers={N:0,M:0,I:0,K9:0,COUNT:0} strings={A:,B:}\nstep 51: n=0 notes=0 split=- trials=2 in=0 out=0 state=running next=23 held=[] numbers={N:0,M:0,I:0,K9:0,COUNT:0} strings={A:,B:}\nstep 52: n=0 notes=0 split=- trials=2 in=0 out=0 state=running next=23 held=[] numbers={N:0,M:0,I:0,K9:0,COUNT:0} strings={A:,B:}\nstep 53: n=0 notes=0 split=- trials=2 in=0 out=0 state=running next=23 held=[] numbers={N:0,M:0,I:0,K9:0,COUNT:0} strings={A:,B:}\nstep 54: n=0 notes=0 split=- trials=2 in=0 out=0 state=running next=23 held=[] numbers={N:0,M:0,I:0,K9:0,COUNT:0} strings={A:,B:}\nstep 55: n=0 notes=0 split=- trials=2 in=0 out=0 state=running next=23 held=[] numbers={N:0,M:0,I:0,K9:0,COUNT:0} strings={A:,B:}\nstep 56: n=0 notes=0 split=- trials=2 in=0 out=0 state=running next=23 held=[] numbers={N:0,M:0,I:0,K9:0,COUNT:0} strings={A:,B:}\nstep 57: n=0 notes=0 split=- trials=2 in=0 out=0 state=running next=23 held=[] numbers={N:0,M:0,I:0,K9:0,COUNT:0} strings={A:,B:}\nstep 58: n=0 notes=0 split=- trials=2 in=0 out=0 state=running next=23 held=[] numbers={N:0,M:0,I:0,K9:0,COUNT:0} strings={A:,B:}\nstep 59: n=0 notes=0 split=- trials=2 in=0 out=0 state=running next=23 held=[] numbers={N:0,M:0,I:0,K9:0,COUNT:0} strings={A:,B:}\nstep 60: n=0 notes=0 split=- trials=2 in=0 out=0 state=running next=23 held=[] numbers={N:0,M:0,I:0,K9:0,COUNT:0} strings={A:,B:}\n" ≡ true
unfolding agrees
v068 = refl
