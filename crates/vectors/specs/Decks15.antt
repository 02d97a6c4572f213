-- Decks with their inputs and traces. Assumes nothing.
use Rattle.std.specs.Prelude.{true, ◌≡◌, refl}
use Rattle.vectors.specs.Trace.{agrees, agrees_whole}

v089 : agrees "         PROG RAM LOTS\n         N  UMBER N \nX9      CWRITE(61)\n        C \"A 1\",\"1\n IGNORED 2A\",\"\"\",F\n         SCAN A[(  LI N  E$ 2) ,(  G),(S1)]=\"A\",\" B\"/L3\n DONE    IF(LENGTH(G)>=NUMBER(G))/X9,L2\n         N=(4  )*LENGTH(B)\n         B$1  =F$N                                                      SEQ54890\n         READ LINE/L3,L2\n         R OU  T  INE R 1\n        XA=STRING(\n         -5,N),\"\"\"\n LOOP    SCAN B[(A$N),\"1B2\",TEXTLONG$2]/,LOOP\n         G=C,\"1 1A,A   B2,\",\" 1AAA\"\n         S1=\"B  \",STR ING(1,N)\n         ENDROUTINE\nL2      +IF (NUME RIC  (LIN  E$4)) \n         / X9,DONE\n         LINE=\"1BA\",\"A\",\" +3\"\n         N=  N+(N )\n         A=S1$6,\",2\"\n L3      S1=LINE\n         BACK  SC  AN G[( S1)  ,\"A\",(A),(F),STRING(N)]=STR ING(  N,N)/L1\n L1      END                                                            SEQ92537\n" "" "step 1: n=0 notes=0 split=- trials=0 in=0 out=8 state=running next=6 held=[] numbers={N:0} strings={F:,A:,LINE:,G:,S1:,B:,TEXTLONG:,C:}\nstep 2: n=0 notes=0 split=- trials=1 in=0 out=8 state=running next=7 held=[] numbers={N:0} strings={F:,A:,LINE:,G:,S1:,B:,TEXTLONG:,C:}\nstep 3: n=0 notes=1 split=- trials=0 in=0 out=8 state=running next=3 held=[] numbers={N:0} strings={F:,A:,LINE:,G:,S1:,B:,TEXTLONG:,C:}\nstep 4: n=0 notes=0 split=- trials=0 in=0 out=16 state=running next=6 held=[] numbers={N:0} strings={F:,A:,LINE:,G:,S1:,B:,TEXTLONG:,C:}\nstep 5: n=0 notes=0 split=- trials=1 in=0 out=16 state=running next=7 held=[] numbers={N:0} strings={F:,A:,LINE:,G:,S1:,B:,TEXTLONG:,C:}\nstep 6: n=0 notes=1 split=- trials=0 in=0 out=16 state=running next=3 held=[] numbers={N:0} strings={F:,A:,LINE:,G:,S1:,B:,TEXTLONG:,C:}\nstep 7: n=0 notes=0 split=- trials=0 in=0 out=24 state=running next=6 held=[] numbers={N:0} strings={F:,A:,LINE:,G:,S1:,B:,TEXTLONG:,C:}\nstep 8: n=0 notes=0 split=- trials=1 in=0 out=24 state=running next=7 held=[] numbers={N:0} strings={F:,A:,LINE:,G:,S1:,B:,TEXTLONG:,C:}\nstep 9: n=0 notes=1 split=- trials=0 in=0 out=24 state=running next=3 held=[] numbers={N:0} strings={F:,A:,LINE:,G:,S1:,B:,TEXTLONG:,C:}\nstep 10: n=0 notes=0 split=- trials=0 in=0 out=32 state=running next=6 held=[] numbers={N:0} strings={F:,A:,LINE:,G:,S1:,B:,TEXTLONG:,C:}\nstep 11: n=0 notes=0 split=- trials=1 in=0 out=32 state=running next=7 held=[] numbers={N:0} strings={F:,A:,LINE:,G:,S1:,B:,TEXTLONG:,C:}\nstep 12: n=0 notes=1 split=- trials=0 in=0 out=32 state=running next=3 held=[] numbers={N:0} strings={F:,A:,LINE:,G:,S1:,B:,TEXTLONG:,C:}\nstep 13: n=0 notes=0 split=- trials=0 in=0 out=40 state=running next=6 held=[] numbers={N:0} strings={F:,A:,LINE:,G:,S1:,B:,TEXTLONG:,C:}\nstep 14: n=0 notes=0 split=- trials=1 in=0 out=40 state=running next=7 held=[] numbers={N:0} strings={F:,A:,LINE:,G:,S1:,B:,TEXTLONG:,C:}\nstep 15: n=0 notes=1 split=- trials=0 in=0 out=40 state=running next=3 held=[] numbers={N:0} strings={F:,A:,LINE:,G:,S1:,B:,TEXTLONG:,C:}\nstep 16: n=0 notes=0 split=- trials=0 in=0 out=48 state=running next=6 held=[] numbers={N:0} strings={F:,A:,LINE:,G:,S1:,B:,TEXTLONG:,C:}\nstep 17: n=0 notes=0 split=- trials=1 in=0 out=48 state=running next=7 held=[] numbers={N:0} strings={F:,A:,LINE:,G:,S1:,B:,TEXTLONG:,C:}\nstep 18: n=0 notes=1 split=- trials=0 in=0 out=48 state=running next=3 held=[] numbers={N:0} strings={F:,A:,LINE:,G:,S1:,B:,TEXTLONG:,C:}\nstep 19: n=0 notes=0 split=- trials=0 in=0 out=56 state=running next=6 held=[] numbers={N:0} strings={F:,A:,LINE:,G:,S1:,B:,TEXTLONG:,C:}\nstep 20: n=0 notes=0 split=- trials=1 in=0 out=56 state=running next=7 held=[] numbers={N:0} strings={F:,A:,LINE:,G:,S1:,B:,TEXTLONG:,C:}\nstep 21: n=0 notes=1 split=- trials=0 in=0 out=56 state=running next=3 held=[] numbers={N:0} strings={F:,A:,LINE:,G:,S1:,B:,TEXTLONG:,C:}\nstep 22: n=0 notes=0 split=- trials=0 in=0 out=64 state=running next=6 held=[] numbers={N:0} strings={F:,A:,LINE:,G:,S1:,B:,TEXTLONG:,C:}\nstep 23: n=0 notes=0 split=- trials=1 in=0 out=64 state=running next=7 held=[] numbers={N:0} strings={F:,A:,LINE:,G:,S1:,B:,TEXTLONG:,C:}\nstep 24: n=0 notes=1 split=- trials=0 in=0 out=64 state=running next=3 held=[] numbers={N:0} strings={F:,A:,LINE:,G:,S1:,B:,TEXTLONG:,C:}\nstep 25: n=0 notes=0 split=- trials=0 in=0 out=72 state=running next=6 held=[] numbers={N:0} strings={F:,A:,LINE:,G:,S1:,B:,TEXTLONG:,C:}\nstep 26: n=0 notes=0 split=- trials=1 in=0 out=72 state=running next=7 held=[] numbers={N:0} strings={F:,A:,LINE:,G:,S1:,B:,TEXTLONG:,C:}\nstep 27: n=0 notes=1 split=- trials=0 in=0 out=72 state=running next=3 held=[] numbers={N:0} strings={F:,A:,LINE:,G:,S1:,B:,TEXTLONG:,C:}\nstep 28: n=0 notes=0 split=- trials=0 in=0 out=80 state=running next=6 held=[] numbers={N:0} strings={F:,A:,LINE:,G:,S1:,B:,TEXTLONG:,C:}\nstep 29: n=0 notes=0 split=- trials=1 in=0 out=80 state=running next=7 held=[] numbers={N:0} strings={F:,A:,LINE:,G:,S1:,B:,TEXTLONG:,C:}\nstep 30: n=0 notes=1 split=- trials=0 in=0 out=80 state=running next=3 held=[] numbers={N:0} strings={F:,A:,LINE:,G:,S1:,B:,TEXTLONG:,C:}\nstep 31: n=0 notes=0 split=- trials=0 in=0 out=88 state=running next=6 held=[] numbers={N:0} strings={F:,A:,LINE:,G:,S1:,B:,TEXTLONG:,C:}\nstep 32: n=0 notes=0 split=- trials=1 in=0 out=88 state=running next=7 held=[] numbers={N:0} strings={F:,A:,LINE:,G:,S1:,B:,TEXTLONG:,C:}\nstep 33: n=0 notes=1 split=- trials=0 in=0 out=88 state=running next=3 held=[] numbers={N:0} strings={F:,A:,LINE:,G:,S1:,B:,TEXTLONG:,C:}\nstep 34: n=0 notes=0 split=- trials=0 in=0 out=96 state=running next=6 held=[] numbers={N:0} strings={F:,A:,LINE:,G:,S1:,B:,TEXTLONG:,C:}\nstep 35: n=0 notes=0 split=- trials=1 in=0 out=96 state=running next=7 held=[] numbers={N:0} strings={F:,A:,LINE:,G:,S1:,B:,TEXTLONG:,C:}\nstep 36: n=0 notes=1 split=- trials=0 in=0 out=96 state=running next=3 held=[] numbers={N:0} strings={F:,A:,LINE:,G:,S1:,B:,TEXTLONG:,C:}\nstep 37: n=0 notes=0 split=- trials=0 in=0 out=104 state=running next=6 held=[] numbers={N:0} strings={F:,A:,LINE:,G:,S1:,B:,TEXTLONG:,C:}\nstep 38: n=0 notes=0 split=- trials=1 in=0 out=104 state=running next=7 held=[] numbers={N:0} strings={F:,A:,LINE:,G:,S1:,B:,TEXTLONG:,C:}\nstep 39: n=0 notes=1 split=- trials=0 in=0 out=104 state=running next=3 held=[] numbers={N:0} strings={F:,A:,LINE:,G:,S1:,B:,TEXTLONG:,C:}\nstep 40: n=0 notes=0 split=- trials=0 in=0 out=112 state=running next=6 held=[] numbers={N:0} strings={F:,A:,LINE:,G:,S1:,B:,TEXTLONG:,C:}\nstep 41: n=0 notes=0 split=- trials=1 in=0 out=112 state=running next=7 held=[] numbers={N:0} strings={F:,A:,LINE:,G:,S1:,B:,TEXTLONG:,C:}\nstep 42: n=0 notes=1 split=- trials=0 in=0 out=112 state=running next=3 held=[] numbers={N:0} strings={F:,A:,LINE:,G:,S1:,B:,TEXTLONG:,C:}\nstep 43: n=0 notes=0 split=- trials=0 in=0 out=120 state=running next=6 held=[] numbers={N:0} strings={F:,A:,LINE:,G:,S1:,B:,TEXTLONG:,C:}\nstep 44: n=0 notes=0 split=- trials=1 in=0 out=120 state=running next=7 held=[] numbers={N:0} strings={F:,A:,LINE:,G:,S1:,B:,TEXTLONG:,C:}\nstep 45: n=0 notes=1 split=- trials=0 in=0 out=120 state=running next=3 held=[] numbers={N:0} strings={F:,A:,LINE:,G:,S1:,B:,TEXTLONG:,C:}\nstep 46: n=0 notes=0 split=- trials=0 in=0 out=128 state=running next=6 held=[] numbers={N:0} strings={F:,A:,LINE:,G:,S1:,B:,TEXTLONG:,C:}\nstep 47: n=0 notes=0 split=- trials=1 in=0 out=128 state=running next=7 held=[] numbers={N:0} strings={F:,A:,LINE:,G:,S1:,B:,TEXTLONG:,C:}\nstep 48: n=0 notes=1 split=- trials=0 in=0 out=128 state=running next=3 held=[] numbers={N:0} strings={F:,A:,LINE:,G:,S1:,B:,TEXTLONG:,C:}\nstep 49: n=0 notes=0 split=- trials=0 in=0 out=136 state=running next=6 held=[] numbers={N:0} strings={F:,A:,LINE:,G:,S1:,B:,TEXTLONG:,C:}\nstep 50: n=0 notes=0 split=- trials=1 in=0 out=136 state=running next=7 held=[] numbers={N:0} strings={F:,A:,LINE:,G:,S1:,B:,TEXTLONG:,C:}\nstep 51: n=0 notes=1 split=- trials=0 in=0 out=136 state=running next=3 held=[] numbers={N:0} strings={F:,A:,LINE:,G:,S1:,B:,TEXTLONG:,C:}\nstep 52: n=0 notes=0 split=- trials=0 in=0 out=144 state=running next=6 held=[] numbers={N:0} strings={F:,A:,LINE:,G:,S1:,B:,TEXTLONG:,C:}\nstep 53: n=0 notes=0 split=- trials=1 in=0 out=144 state=running next=7 held=[] numbers={N:0} strings={F:,A:,LINE:,G:,S1:,B:,TEXTLONG:,C:}\nstep 54: n=0 notes=1 split=- trials=0 in=0 out=144 state=running next=3 held=[] numbers={N:0} strings={F:,A:,LINE:,G:,S1:,B:,TEXTLONG:,C:}\nstep 55: n=0 notes=0 split=- trials=0 in=0 out=152 state=running next=6 held=[] numbers={N:0} strings={F:,A:,LINE:,G:,S1:,B:,TEXTLONG:,C:}\nstep 56: n=0 notes=0 split=- trials=1 in=0 out=152 state=running next=7 held=[] numbers={N:0} strings={F:,A:,LINE:,G:,S1:,B:,TEXTLONG:,C:}\nstep 57: n=0 notes=1 split=- trials=0 in=0 out=152 state=running next=3 held=[] numbers={N:0} strings={F:,A:,LINE:,G:,S1:,B:,TEXTLONG:,C:}\nstep 58: n=0 notes=0 split=- trials=0 in=0 out=160 state=running next=6 held=[] numbers={N:0} strings={F:,A:,LINE:,G:,S1:,B:,TEXTLONG:,C:}\nstep 59: n=0 notes=0 split=- trials=1 in=0 out=160 state=running next=7 held=[] numbers={N:0} strings={F:,A:,LINE:,G:,S1:,B:,TEXTLONG:,C:}\nstep 60: n=0 notes=1 split=- trials=0 in=0 out=160 state=running next=3 held=[] numbers={N:0} strings={F:,A:,LINE:,G:,S1:,B:,TEXTLONG:,C:}\n" ≡ true
unfolding agrees
v089 = refl

v090 : agrees "         PROGR AM TE ST1 \n         NUMB  ER   LENGTH\n* COMMENT 8\n         EXECUTE R2\n         SCAN A[STRING,(STRING),\"\"\",B$LENGTH]\n* COMMENT 0\n         ROUTINE R3                                                     SEQ53083\n         SCAN STRING[B,(C)]/  L2,L2\nL2       SCAN STRING[]=\n         ENDROUTINE\n         C$4=\")BA$,))B(1B(\"\n         LENGTH=3-LENGTH(S  TRING)\n         SCAN C[]=\",A1 AABBB1A,\",STRING(LENGTH)/L1                      SEQ08191\n         C=STR ING(LENGTH )                                             SEQ07136\n         WRITE C,B\n         ROUTINE R1\n         BACKSCAN C[]/X9\nX9       SCAN A$1[(B$000),(B),(C),(B$1),(C),\"3\",STRING]/X9\n         IF(NULL(B))/,X9\nDONE     WRITE \",,,1, ,A11AA\",\"$,,3B\"\n   \n         E NDROUTINE\n         GO TO L3 \n         PR INT(  61) STR  ING,STRI  N  G$LEN  GTH ,B\n         STRING=STRING(LENGTH)\n         ROUTINE R2\n         LE  N  GTH=-  LENGTH (C)\n         LENGTH=(58-LENGTH)*(3-LENGTH)                                  SEQ97912\n        +LENGTH=-(+LENGTH-(612642 *LENG  T  H-1/1598*LEN  GTH) *LENGTH+NSEQ36476\nIGNORED  UMBE R(C))                                                     SEQ85812\n* COMMENT 0\n         I  F(+9>=+  4)/  LOOP,LOOP \nLOOP     ENDROUTINE\nL3       PRINT B,STRING(LENGTH),B\n         READ(60) STRING/L3,L1\nL1       IF(NUMERIC(A))/L1\n         END\n" "+21\nA+B2 -0-+2B0,+AA2A12+A2AAA+B1 12A0-1A1B \n\n--A +A\n0\n\nAAA1A00 02A, 2A,A1+B121AA1 B+-,A, AB2AB0\nAA,AA- 1,1+ 2+AAA2A12,0,+00--2A,-A1BAAAA\n" "step 1: n=0 notes=0 split=- trials=0 in=0 out=0 state=running next=27 held=[5] numbers={LENGTH:0} strings={A:,STRING:,B:,C:}\nstep 2: n=0 notes=0 split=- trials=0 in=0 out=0 state=running next=28 held=[5] numbers={LENGTH:0} strings={A:,STRING:,B:,C:}\nstep 3: n=0 notes=0 split=- trials=0 in=0 out=0 state=running next=29 held=[5] numbers={LENGTH:174} strings={A:,STRING:,B:,C:}\nstep 4: n=19 notes=0 split=- trials=0 in=0 out=0 state=stopped next=29 held=[5] numbers={LENGTH:174} strings={A:,STRING:,B:,C:}\n" ≡ true
unfolding agrees
v090 = refl

v091 : agrees "         PROGRA M LO  TS\n         NUMBER N,M\n         ROUTINE R3\n         IF(NULL(C))/L3,L3\n         ENDROUTINE\n         ROUTINE R2\n   \n         PRINT(61) \"A,\",A\nL1       EXECUTE R3\n         B=\n* COMMENT 7\n        XE NDROU T  \n         INE \n         EXIT                                                           SEQ58446\nDONE     BACKSCAN B[(C$1),(C$2)] \nLOOP     ROUTINE R1\nL2       ENDRO UTINE \nX9       END                                                            SEQ52089\n" "" "REFUSED 11 0\n" ≡ true
unfolding agrees
v091 = refl

v092 : agrees "         PROGRAM TEST1\n         NUMBER N,M  ,I,K9,COUN T\nLOOP     BACKSCAN TE XT  L O NG[S  1]\n         IF(NULL(G) )/L2\nL2       IF(LENGTH(LINE)=NUMBER(B$N))/X9                                SEQ58530\nL1       GO TO L1\n         LINE=STRING(1,  M),B,A \n         BACKSCAN A[]=\nX9      +SCAN S1[A$4,\"1 \",\"AA\",\"1\",(A)]=STRING(2,COUNT),STRING(K9),A$K9,\n         F\n         SC AN S1 [ (LIN E  ),G,  TEXT  LONG $  M,(F),( B)]/L1 ,L3\n         IF(NUMBER(TEXTLONG)>=NUMBER(TEXTLONG$0))/L3\n         SCAN B[(F),C$4,(A),G$0]=\"*$ \",LINE,STRING(M)\nDONE     G$6=\n         SCAN TEXTLONG$7[STRING(K9,M),(G),STRING(0,I),\"2 ,22\"]=LINE/DONE\n                                                                        SEQ\nL3       END\n" "" "step 1: n=0 notes=0 split=0;0 trials=1 in=0 out=0 state=running next=4 held=[] numbers={N:0,M:0,I:0,K9:0,COUNT:0} strings={TEXTLONG:,S1:,G:,LINE:,B:,A:,F:,C:}\nstep 2: n=0 notes=0 split=- trials=0 in=0 out=0 state=running next=5 held=[] numbers={N:0,M:0,I:0,K9:0,COUNT:0} strings={TEXTLONG:,S1:,G:,LINE:,B:,A:,F:,C:}\nstep 3: n=0 notes=1 split=- trials=0 in=0 out=0 state=running next=9 held=[] numbers={N:0,M:0,I:0,K9:0,COUNT:0} strings={TEXTLONG:,S1:,G:,LINE:,B:,A:,F:,C:}\nstep 4: n=0 notes=0 split=- trials=2 in=0 out=0 state=running next=11 held=[] numbers={N:0,M:0,I:0,K9:0,COUNT:0} strings={TEXTLONG:,S1:,G:,LINE:,B:,A:,F:,C:}\nstep 5: n=0 notes=0 split=0;0,0,0,0,0 trials=2 in=0 out=0 state=running next=6 held=[] numbers={N:0,M:0,I:0,K9:0,COUNT:0} strings={TEXTLONG:,S1:,G:,LINE:,B:,A:,F:,C:}\nstep 6: n=0 notes=0 split=- trials=0 in=0 out=0 state=running next=6 held=[] numbers={N:0,M:0,I:0,K9:0,COUNT:0} strings={TEXTLONG:,S1:,G:,LINE:,B:,A:,F:,C:}\nstep 7: n=0 notes=0 split=- trials=0 in=0 out=0 state=running next=6 held=[] numbers={N:0,M:0,I:0,K9:0,COUNT:0} strings={TEXTLONG:,S1:,G:,LINE:,B:,A:,F:,C:}\nstep 8: n=0 notes=0 split=- trials=0 in=0 out=0 state=running next=6 held=[] numbers={N:0,M:0,I:0,K9:0,COUNT:0} strings={TEXTLONG:,S1:,G:,LINE:,B:,A:,F:,C:}\nstep 9: n=0 notes=0 split=- trials=0 in=0 out=0 state=running next=6 held=[] numbers={N:0,M:0,I:0,K9:0,COUNT:0} strings={TEXTLONG:,S1:,G:,LINE:,B:,A:,F:,C:}\nstep 10: n=0 notes=0 split=- trials=0 in=0 out=0 state=running next=6 held=[] numbers={N:0,M:0,I:0,K9:0,COUNT:0} strings={TEXTLONG:,S1:,G:,LINE:,B:,A:,F:,C:}\nstep 11: n=0 notes=0 split=- trials=0 in=0 out=0 state=running next=6 held=[] numbers={N:0,M:0,I:0,K9:0,COUNT:0} strings={TEXTLONG:,S1:,G:,LINE:,B:,A:,F:,C:}\nstep 12: n=0 notes=0 split=- trials=0 in=0 out=0 state=running next=6 held=[] numbers={N:0,M:0,I:0,K9:0,COUNT:0} strings={TEXTLONG:,S1:,G:,LINE:,B:,A:,F:,C:}\nstep 13: n=0 notes=0 split=- trials=0 in=0 out=0 state=running next=6 held=[] numbers={N:0,M:0,I:0,K9:0,COUNT:0} strings={TEXTLONG:,S1:,G:,LINE:,B:,A:,F:,C:}\nstep 14: n=0 notes=0 split=- trials=0 in=0 out=0 state=running next=6 held=[] numbers={N:0,M:0,I:0,K9:0,COUNT:0} strings={TEXTLONG:,S1:,G:,LINE:,B:,A:,F:,C:}\nstep 15: n=0 notes=0 split=- trials=0 in=0 out=0 state=running next=6 held=[] numbers={N:0,M:0,I:0,K9:0,COUNT:0} strings={TEXTLONG:,S1:,G:,LINE:,B:,A:,F:,C:}\nstep 16: n=0 notes=0 split=- trials=0 in=0 out=0 state=running next=6 held=[] numbers={N:0,M:0,I:0,K9:0,COUNT:0} strings={TEXTLONG:,S1:,G:,LINE:,B:,A:,F:,C:}\nstep 17: n=0 notes=0 split=- trials=0 in=0 out=0 state=running next=6 held=[] numbers={N:0,M:0,I:0,K9:0,COUNT:0} strings={TEXTLONG:,S1:,G:,LINE:,B:,A:,F:,C:}\nstep 18: n=0 notes=0 split=- trials=0 in=0 out=0 state=running next=6 held=[] numbers={N:0,M:0,I:0,K9:0,COUNT:0} strings={TEXTLONG:,S1:,G:,LINE:,B:,A:,F:,C:}\nstep 19: n=0 notes=0 split=- trials=0 in=0 out=0 state=running next=6 held=[] numbers={N:0,M:0,I:0,K9:0,COUNT:0} strings={TEXTLONG:,S1:,G:,LINE:,B:,A:,F:,C:}\nstep 20: n=0 notes=0 split=- trials=0 in=0 out=0 state=running next=6 held=[] numbers={N:0,M:0,I:0,K9:0,COUNT:0} strings={TEXTLONG:,S1:,G:,LINE:,B:,A:,F:,C:}\nstep 21: n=0 notes=0 split=- trials=0 in=0 out=0 state=running next=6 held=[] numbers={N:0,M:0,I:0,K9:0,COUNT:0} strings={TEXTLONG:,S1:,G:,LINE:,B:,A:,F:,C:}\nstep 22: n=0 notes=0 split=- trials=0 in=0 out=0 state=running next=6 held=[] numbers={N:0,M:0,I:0,K9:0,COUNT:0} strings={TEXTLONG:,S1:,G:,LINE:,B:,A:,F:,C:}\nstep 23: n=0 notes=0 split=- trials=0 in=0 out=0 state=running next=6 held=[] numbers={N:0,M:0,I:0,K9:0,COUNT:0} strings={TEXTLONG:,S1:,G:,LINE:,B:,A:,F:,C:}\nstep 24: n=0 notes=0 split=- trials=0 in=0 out=0 state=running next=6 held=[] numbers={N:0,M:0,I:0,K9:0,COUNT:0} strings={TEXTLONG:,S1:,G:,LINE:,B:,A:,F:,C:}\nstep 25: n=0 notes=0 split=- trials=0 in=0 out=0 state=running next=6 held=[] numbers={N:0,M:0,I:0,K9:0,COUNT:0} strings={TEXTLONG:,S1:,G:,LINE:,B:,A:,F:,C:}\nstep 26: n=0 notes=0 split=- trials=0 in=0 out=0 state=running next=6 held=[] numbers={N:0,M:0,I:0,K9:0,COUNT:0} strings={TEXTLONG:,S1:,G:,LINE:,B:,A:,F:,C:}\nstep 27: n=0 notes=0 split=- trials=0 in=0 out=0 state=running next=6 held=[] numbers={N:0,M:0,I:0,K9:0,COUNT:0} strings={TEXTLONG:,S1:,G:,LINE:,B:,A:,F:,C:}\nstep 28: n=0 notes=0 split=- trials=0 in=0 out=0 state=running next=6 held=[] numbers={N:0,M:0,I:0,K9:0,COUNT:0} strings={TEXTLONG:,S1:,G:,LINE:,B:,A:,F:,C:}\nstep 29: n=0 notes=0 split=- trials=0 in=0 out=0 state=running next=6 held=[] numbers={N:0,M:0,I:0,K9:0,COUNT:0} strings={TEXTLONG:,S1:,G:,LINE:,B:,A:,F:,C:}\nstep 30: n=0 notes=0 split=- trials=0 in=0 out=0 state=running next=6 held=[] numbers={N:0,M:0,I:0,K9:0,COUNT:0} strings={TEXTLONG:,S1:,G:,LINE:,B:,A:,F:,C:}\nstep 31: n=0 notes=0 split=- trials=0 in=0 out=0 state=running next=6 held=[] numbers={N:0,M:0,I:0,K9:0,COUNT:0} strings={TEXTLONG:,S1:,G:,LINE:,B:,A:,F:,C:}\nstep 32: n=0 notes=0 split=- trials=0 in=0 out=0 state=running next=6 held=[] numbers={N:0,M:0,I:0,K9:0,COUNT:0} strings={TEXTLONG:,S1:,G:,LINE:,B:,A:,F:,C:}\nstep 33: n=0 notes=0 split=- trials=0 in=0 out=0 state=running next=6 held=[] numbers={N:0,M:0,I:0,K9:0,COUNT:0} strings={TEXTLONG:,S1:,G:,LINE:,B:,A:,F:,C:}\nstep 34: n=0 notes=0 split=- trials=0 in=0 out=0 state=running next=6 held=[] numbers={N:0,M:0,I:0,K9:0,COUNT:0} strings={TEXTLONG:,S1:,G:,LINE:,B:,A:,F:,C:}\nstep 35: n=0 notes=0 split=- trials=0 in=0 out=0 state=running next=6 held=[] numbers={N:0,M:0,I:0,K9:0,COUNT:0} strings={TEXTLONG:,S1:,G:,LINE:,B:,A:,F:,C:}\nstep 36: n=0 notes=0 split=- trials=0 in=0 out=0 state=running next=6 held=[] numbers={N:0,M:0,I:0,K9:0,COUNT:0} strings={TEXTLONG:,S1:,G:,LINE:,B:,A:,F:,C:}\nstep 37: n=0 notes=0 split=- trials=0 in=0 out=0 state=running next=6 held=[] numbers={N:0,M:0,I:0,K9:0,COUNT:0} strings={TEXTLONG:,S1:,G:,LINE:,B:,A:,F:,C:}\nstep 38: n=0 notes=0 split=- trials=0 in=0 out=0 state=running next=6 held=[] numbers={N:0,M:0,I:0,K9:0,COUNT:0} strings={TEXTLONG:,S1:,G:,LINE:,B:,A:,F:,C:}\nstep 39: n=0 notes=0 split=- trials=0 in=0 out=0 state=running next=6 held=[] numbers={N:0,M:0,I:0,K9:0,COUNT:0} strings={TEXTLONG:,S1:,G:,LINE:,B:,A:,F:,C:}\nstep 40: n=0 notes=0 split=- trials=0 in=0 out=0 state=running next=6 held=[] numbers={N:0,M:0,I:0,K9:0,COUNT:0} strings={TEXTLONG:,S1:,G:,LINE:,B:,A:,F:,C:}\nstep 41: n=0 notes=0 split=- trials=0 in=0 out=0 state=running next=6 held=[] numbers={N:0,M:0,I:0,K9:0,COUNT:0} strings={TEXTLONG:,S1:,G:,LINE:,B:,A:,F:,C:}\nstep 42: n=0 notes=0 split=- trials=0 in=0 out=0 state=running next=6 held=[] numbers={N:0,M:0,I:0,K9:0,COUNT:0} strings={TEXTLONG:,S1:,G:,LINE:,B:,A:,F:,C:}\nstep 43: n=0 notes=0 split=- trials=0 in=0 out=0 state=running next=6 held=[] numbers={N:0,M:0,I:0,K9:0,COUNT:0} strings={TEXTLONG:,S1:,G:,LINE:,B:,A:,F:,C:}\nstep 44: n=0 notes=0 split=- trials=0 in=0 out=0 state=running next=6 held=[] numbers={N:0,M:0,I:0,K9:0,COUNT:0} strings={TEXTLONG:,S1:,G:,LINE:,B:,A:,F:,C:}\nstep 45: n=0 notes=0 split=- trials=0 in=0 out=0 state=running next=6 held=[] numbers={N:0,M:0,I:0,K9:0,COUNT:0} strings={TEXTLONG:,S1:,G:,LINE:,B:,A:,F:,C:}\nstep 46: n=0 notes=0 split=- trials=0 in=0 out=0 state=running next=6 held=[] numbers={N:0,M:0,I:0,K9:0,COUNT:0} strings={TEXTLONG:,S1:,G:,LINE:,B:,A:,F:,C:}\nstep 47: n=0 notes=0 split=- trials=0 in=0 out=0 state=running next=6 held=[] numbers={N:0,M:0,I:0,K9:0,COUNT:0} strings={TEXTLONG:,S1:,G:,LINE:,B:,A:,F:,C:}\nstep 48: n=0 notes=0 split=- trials=0 in=0 out=0 state=running next=6 held=[] numbers={N:0,M:0,I:0,K9:0,COUNT:0} strings={TEXTLONG:,S1:,G:,LINE:,B:,A:,F:,C:}\nstep 49: n=0 notes=0 split=- trials=0 in=0 out=0 state=running next=6 held=[] numbers={N:0,M:0,I:0,K9:0,COUNT:0} strings={TEXTLONG:,S1:,G:,LINE:,B:,A:,F:,C:}\nstep 50: n=0 notes=0 split=- trials=0 in=0 out=0 state=running next=6 held=[] numbers={N:0,M:0,I:0,K9:0,COUNT:0} strings={TEXTLONG:,S1:,G:,LINE:,B:,A:,F:,C:}\nstep 51: n=0 notes=0 split=- trials=0 in=0 out=0 state=running next=6 held=[] numbers={N:0,M:0,I:0,K9:0,COUNT:0} strings={TEXTLONG:,S1:,G:,LINE:,B:,A:,F:,C:}\nstep 52: n=0 notes=0 split=- trials=0 in=0 out=0 state=running next=6 held=[] numbers={N:0,M:0,I:0,K9:0,COUNT:0} strings={TEXTLONG:,S1:,G:,LINE:,B:,A:,F:,C:}\nstep 53: n=0 notes=0 split=- trials=0 in=0 out=0 state=running next=6 held=[] numbers={N:0,M:0,I:0,K9:0,COUNT:0} strings={TEXTLONG:,S1:,G:,LINE:,B:,A:,F:,C:}\nstep 54: n=0 notes=0 split=- trials=0 in=0 out=0 state=running next=6 held=[] numbers={N:0,M:0,I:0,K9:0,COUNT:0} strings={TEXTLONG:,S1:,G:,LINE:,B:,A:,F:,C:}\nstep 55: n=0 notes=0 split=- trials=0 in=0 out=0 state=running next=6 held=[] numbers={N:0,M:0,I:0,K9:0,COUNT:0} strings={TEXTLONG:,S1:,G:,LINE:,B:,A:,F:,C:}\nstep 56: n=0 notes=0 split=- trials=0 in=0 out=0 state=running next=6 held=[] numbers={N:0,M:0,I:0,K9:0,COUNT:0} strings={TEXTLONG:,S1:,G:,LINE:,B:,A:,F:,C:}\nstep 57: n=0 notes=0 split=- trials=0 in=0 out=0 state=running next=6 held=[] numbers={N:0,M:0,I:0,K9:0,COUNT:0} strings={TEXTLONG:,S1:,G:,LINE:,B:,A:,F:,C:}\nstep 58: n=0 notes=0 split=- trials=0 in=0 out=0 state=running next=6 held=[] numbers={N:0,M:0,I:0,K9:0,COUNT:0} strings={TEXTLONG:,S1:,G:,LINE:,B:,A:,F:,C:}\nstep 59: n=0 notes=0 split=- trials=0 in=0 out=0 state=running next=6 held=[] numbers={N:0,M:0,I:0,K9:0,COUNT:0} strings={TEXTLONG:,S1:,G:,LINE:,B:,A:,F:,C:}\nstep 60: n=0 notes=0 split=- trials=0 in=0 out=0 state=running next=6 held=[] numbers={N:0,M:0,I:0,K9:0,COUNT:0} strings={TEXTLONG:,S1:,G:,LINE:,B:,A:,F:,C:}\n" ≡ true
unfolding agrees
v092 = refl

v093 : agrees "         P R  OGRAM   LOT  S \n         NUMBER N\nL2       LINE$3=C$N,STRING(0,N)\n         B=  C,STRIN G(N)\nDONE     READ(60) LINE\n         R EAD(60) A  / ,X 9\nLOOP     IF(1  >= N)/L2 \n         SCAN C[ STRIN  G(-3,N)]/L2,DO NE\nL1       BACKSCAN A$3[(LINE),C$4,(LINE$N)]=\"BA1\",B,TEXTLONG/,L1\n L3      SCAN S1[(A),(C)]/LOOP,DONE\n         N=-((1683))*LENGTH(A)\n         N=(NUMBER(TEXTLONG))\n         E X IT\nX9       END\n" "" "step 1: n=0 notes=0 split=- trials=0 in=0 out=0 state=running next=4 held=[] numbers={N:0} strings={LINE:30,C:,B:,A:,TEXTLONG:,S1:}\nstep 2: n=0 notes=0 split=- trials=0 in=0 out=0 state=running next=5 held=[] numbers={N:0} strings={LINE:30,C:,B:30,A:,TEXTLONG:,S1:}\nstep 3: n=0 notes=0 split=- trials=0 in=0 out=0 state=running next=6 held=[] numbers={N:0} strings={LINE:30,C:,B:30,A:,TEXTLONG:,S1:}\nstep 4: n=0 notes=0 split=- trials=0 in=0 out=0 state=running next=14 held=[] numbers={N:0} strings={LINE:30,C:,B:30,A:,TEXTLONG:,S1:}\nstep 5: n=0 notes=0 split=- trials=0 in=0 out=0 state=finished next=14 held=[] numbers={N:0} strings={LINE:30,C:,B:30,A:,TEXTLONG:,S1:}\n" ≡ true
unfolding agrees
v093 = refl

v094 : agrees "         PROGRAM TEST1\n         NUM  BER N\n* COMMENT 6\n         ROUTINE R3\n         B=B$N,B$6\n L1      ENDROUTINE\n         RO  UTINE   R2\n* COMMENT 9\n         WRITE STRI  N  G(  - 2,N) \n         B=\n         SCAN B[(A$0),(A$0),(A)]/X9,X9                                  SEQ39615\nX9       ENDROUTINE\n         B=\nL3       ROUTINE R1\n L2     CSCAN A[B ,A  ,(B) ,STR  ING(N,  N),\"A\", (B),(B) ]=\"0-/0B=30=2$*\n         \"/L2\nDONE     A=B\n         READ(60) A/L2,L2                                               SEQ60930\n        +PRINT(\n         61) A\n         ENDROUTINE\n        +IF(NUMERIC(A$0\n         6))/L3\nLOOP     SCAN B[(A$N) ,STRI  NG  (8,N),(A$0  )]=A,A$N,A/LOOP ,L  OOP\n         GO  TO LO  OP\n         WRIT  E A\n         N=7-NUMBER(B$N)-3*5239575\n         SCAN B[(A$3),STRING(N,N),(A),(A),(A)]                          SEQ51919\n         N=+6654724\n         N=N\n         IF (NULL(A))  /L3  \n         SCAN B[(A),B,B,B$N,(A$0),B$6,B]=A,B$N,B/L3\n         BACKSCAN A[]/L3,L3\n         END\n" "-\n0A0B--AA 01AB,A+A1,1BB0AA2,2-AA2-A00B,+1" "step 1: n=0 notes=0 split=- trials=0 in=0 out=0 state=running next=7 held=[] numbers={N:0} strings={B:,A:}\nstep 2: n=0 notes=0 split=- trials=0 in=0 out=0 state=running next=13 held=[] numbers={N:0} strings={B:,A:}\nstep 3: n=0 notes=0 split=- trials=0 in=0 out=0 state=running next=14 held=[] numbers={N:0} strings={B:,A:}\nstep 4: n=0 notes=0 split=- trials=0 in=0 out=0 state=running next=22 held=[] numbers={N:0} strings={B:,A:}\nstep 5: n=0 notes=0 split=- trials=0 in=0 out=0 state=running next=24 held=[] numbers={N:0} strings={B:,A:}\nstep 6: n=0 notes=0 split=- trials=2 in=0 out=0 state=running next=24 held=[] numbers={N:0} strings={B:,A:}\nstep 7: n=0 notes=0 split=- trials=2 in=0 out=0 state=running next=24 held=[] numbers={N:0} strings={B:,A:}\nstep 8: n=0 notes=0 split=- trials=2 in=0 out=0 state=running next=24 held=[] numbers={N:0} strings={B:,A:}\nstep 9: n=0 notes=0 split=- trials=2 in=0 out=0 state=running next=24 held=[] numbers={N:0} strings={B:,A:}\nstep 10: n=0 notes=0 split=- trials=2 in=0 out=0 state=running next=24 held=[] numbers={N:0} strings={B:,A:}\nstep 11: n=0 notes=0 split=- trials=2 in=0 out=0 state=running next=24 held=[] numbers={N:0} strings={B:,A:}\nstep 12: n=0 notes=0 split=- trials=2 in=0 out=0 state=running next=24 held=[] numbers={N:0} strings={B:,A:}\nstep 13: n=0 notes=0 split=- trials=2 in=0 out=0 state=running next=24 held=[] numbers={N:0} strings={B:,A:}\nstep 14: n=0 notes=0 split=- trials=2 in=0 out=0 state=running next=24 held=[] numbers={N:0} strings={B:,A:}\nstep 15: n=0 notes=0 split=- trials=2 in=0 out=0 state=running next=24 held=[] numbers={N:0} strings={B:,A:}\nstep 16: n=0 notes=0 split=- trials=2 in=0 out=0 state=running next=24 held=[] numbers={N:0} strings={B:,A:}\nstep 17: n=0 notes=0 split=- trials=2 in=0 out=0 state=running next=24 held=[] numbers={N:0} strings={B:,A:}\nstep 18: n=0 notes=0 split=- trials=2 in=0 out=0 state=running next=24 held=[] numbers={N:0} strings={B:,A:}\nstep 19: n=0 notes=0 split=- trials=2 in=0 out=0 state=running next=24 held=[] numbers={N:0} strings={B:,A:}\nstep 20: n=0 notes=0 split=- trials=2 in=0 out=0 state=running next=24 held=[] numbers={N:0} strings={B:,A:}\nstep 21: n=0 notes=0 split=- trials=2 in=0 out=0 state=running next=24 held=[] numbers={N:0} strings={B:,A:}\nstep 22: n=0 notes=0 split=- trials=2 in=0 out=0 state=running next=24 held=[] numbers={N:0} strings={B:,A:}\nstep 23: n=0 notes=0 split=- trials=2 in=0 out=0 state=running next=24 held=[] numbers={N:0} strings={B:,A:}\nstep 24: n=0 notes=0 split=- trials=2 in=0 out=0 state=running next=24 held=[] numbers={N:0} strings={B:,A:}\nstep 25: n=0 notes=0 split=- trials=2 in=0 out=0 state=running next=24 held=[] numbers={N:0} strings={B:,A:}\nstep 26: n=0 notes=0 split=- trials=2 in=0 out=0 state=running next=24 held=[] numbers={N:0} strings={B:,A:}\nstep 27: n=0 notes=0 split=- trials=2 in=0 out=0 state=running next=24 held=[] numbers={N:0} strings={B:,A:}\nstep 28: n=0 notes=0 split=- trials=2 in=0 out=0 state=running next=24 held=[] numbers={N:0} strings={B:,A:}\nstep 29: n=0 notes=0 split=- trials=2 in=0 out=0 state=running next=24 held=[] numbers={N:0} strings={B:,A:}\nstep 30: n=0 notes=0 split=- trials=2 in=0 out=0 state=running next=24 held=[] numbers={N:0} strings={B:,A:}\nstep 31: n=0 notes=0 split=- trials=2 in=0 out=0 state=running next=24 held=[] numbers={N:0} strings={B:,A:}\nstep 32: n=0 notes=0 split=- trials=2 in=0 out=0 state=running next=24 held=[] numbers={N:0} strings={B:,A:}\nstep 33: n=0 notes=0 split=- trials=2 in=0 out=0 state=running next=24 held=[] numbers={N:0} strings={B:,A:}\nstep 34: n=0 notes=0 split=- trials=2 in=0 out=0 state=running next=24 held=[] numbers={N:0} strings={B:,A:}\nstep 35: n=0 notes=0 split=- trials=2 in=0 out=0 state=running next=24 held=[] numbers={N:0} strings={B:,A:}\nstep 36: n=0 notes=0 split=- trials=2 in=0 out=0 state=running next=24 held=[] numbers={N:0} strings={B:,A:}\nstep 37: n=0 notes=0 split=- trials=2 in=0 out=0 state=running next=24 held=[] numbers={N:0} strings={B:,A:}\nstep 38: n=0 notes=0 split=- trials=2 in=0 out=0 state=running next=24 held=[] numbers={N:0} strings={B:,A:}\nstep 39: n=0 notes=0 split=- trials=2 in=0 out=0 state=running next=24 held=[] numbers={N:0} strings={B:,A:}\nstep 40: n=0 notes=0 split=- trials=2 in=0 out=0 state=running next=24 held=[] numbers={N:0} strings={B:,A:}\nstep 41: n=0 notes=0 split=- trials=2 in=0 out=0 state=running next=24 held=[] numbers={N:0} strings={B:,A:}\nstep 42: n=0 notes=0 split=- trials=2 in=0 out=0 state=running next=24 held=[] numbers={N:0} strings={B:,A:}\nstep 43: n=0 notes=0 split=- trials=2 in=0 out=0 state=running next=24 held=[] numbers={N:0} strings={B:,A:}\nstep 44: n=0 notes=0 split=- trials=2 in=0 out=0 state=running next=24 held=[] numbers={N:0} strings={B:,A:}\nstep 45: n=0 notes=0 split=- trials=2 in=0 out=0 state=running next=24 held=[] numbers={N:0} strings={B:,A:}\nstep 46: n=0 notes=0 split=- trials=2 in=0 out=0 state=running next=24 held=[] numbers={N:0} strings={B:,A:}\nstep 47: n=0 notes=0 split=- trials=2 in=0 out=0 state=running next=24 held=[] numbers={N:0} strings={B:,A:}\nstep 48: n=0 notes=0 split=- trials=2 in=0 out=0 state=running next=24 held=[] numbers={N:0} strings={B:,A:}\nstep 49: n=0 notes=0 split=- trials=2 in=0 out=0 state=running next=24 held=[] numbers={N:0} strings={B:,A:}\nstep 50: n=0 notes=0 split=- trials=2 in=0 out=0 state=running next=24 held=[] numbers={N:0} strings={B:,A:}\nstep 51: n=0 notes=0 split=- trials=2 in=0 out=0 state=running next=24 held=[] numbers={N:0} strings={B:,A:}\nstep 52: n=0 notes=0 split=- trials=2 in=0 out=0 state=running next=24 held=[] numbers={N:0} strings={B:,A:}\nstep 53: n=0 notes=0 split=- trials=2 in=0 out=0 state=running next=24 held=[] numbers={N:0} strings={B:,A:}\nstep 54: n=0 notes=0 split=- trials=2 in=0 out=0 state=running next=24 held=[] numbers={N:0} strings={B:,A:}\nstep 55: n=0 notes=0 split=- trials=2 in=0 out=0 state=running next=24 held=[] numbers={N:0} strings={B:,A:}\nstep 56: n=0 notes=0 split=- trials=2 in=0 out=0 state=running next=24 held=[] numbers={N:0} strings={B:,A:}\nstep 57: n=0 notes=0 split=- trials=2 in=0 out=0 state=running next=24 held=[] numbers={N:0} strings={B:,A:}\nstep 58: n=0 notes=0 split=- trials=2 in=0 out=0 state=running next=24 held=[] numbers={N:0} strings={B:,A:}\nstep 59: n=0 notes=0 split=- trials=2 in=0 out=0 state=running next=24 held=[] numbers={N:0} strings={B:,A:}\nstep 60: n=0 notes=0 split=- trials=2 in=0 out=0 state=running next=24 held=[] numbers={N:0} strings={B:,A:}\n" ≡ true
unfolding agrees
v094 = refl

v095 : agrees "         PROGRAM TEST1\n         NUMBER N,M\nLOOP     N=3480-(N)-38 +(+N* (8/N)-1/175)\n* COMMENT 9\n         GOTO L 2\nX9       A$N=S1,B,A\nL2       M=3-N/NUMBE R(S1)\n         READ A$0 \n         N=((LENGTH(C))+(N+N+32))\n L1      READ(60) S1\nDONE     B=STRING(2,M),C\n         B$6=                                                           SEQ99814\n         A=B\nL3       END\n" "1\nAABB0A2+0A01" "step 1: n=18 notes=0 split=- trials=0 in=0 out=0 state=stopped next=3 held=[] numbers={N:0,M:0} strings={A:,S1:,B:,C:}\n" ≡ true
unfolding agrees
v095 = refl

v096 : agrees "         PROGRAM TEST1\n         NUMBER N,M,I                                                   SEQ90772\n         GOTO L3\nDONE     ROUTINE R2\nLOOP     M=LENGTH(LINE)\n         M=60-N+LENGTH(C)-((NUMBER(LINE))*I)\n         READ(60) LINE$2/LOOP,LOOP\n         ENDROUTINE                                                     SEQ86236\n L3      ROUTINE R1\nL1       SCAN A[C]\n         ENDROUTINE\n         LINE=\"\"\",\"B21  ,,1A1 ,\",\",A\"\nL2       IF(M<NUMBER(C))/DONE,L2\nX9       END\n" "\nB2+\n+A,\nB1A+ B\n" "step 1: n=0 notes=0 split=- trials=0 in=0 out=0 state=running next=9 held=[] numbers={N:0,M:0,I:0} strings={LINE:,C:,A:}\nstep 2: n=0 notes=0 split=- trials=0 in=0 out=0 state=running next=12 held=[] numbers={N:0,M:0,I:0} strings={LINE:,C:,A:}\nstep 3: n=0 notes=0 split=- trials=0 in=0 out=0 state=running next=13 held=[] numbers={N:0,M:0,I:0} strings={LINE:2242323120202c2c314131202c2c41,C:,A:}\nstep 4: n=0 notes=1 split=- trials=0 in=0 out=0 state=running next=13 held=[] numbers={N:0,M:0,I:0} strings={LINE:2242323120202c2c314131202c2c41,C:,A:}\nstep 5: n=0 notes=1 split=- trials=0 in=0 out=0 state=running next=13 held=[] numbers={N:0,M:0,I:0} strings={LINE:2242323120202c2c314131202c2c41,C:,A:}\nstep 6: n=0 notes=1 split=- trials=0 in=0 out=0 state=running next=13 held=[] numbers={N:0,M:0,I:0} strings={LINE:2242323120202c2c314131202c2c41,C:,A:}\nstep 7: n=0 notes=1 split=- trials=0 in=0 out=0 state=running next=13 held=[] numbers={N:0,M:0,I:0} strings={LINE:2242323120202c2c314131202c2c41,C:,A:}\nstep 8: n=0 notes=1 split=- trials=0 in=0 out=0 state=running next=13 held=[] numbers={N:0,M:0,I:0} strings={LINE:2242323120202c2c314131202c2c41,C:,A:}\nstep 9: n=0 notes=1 split=- trials=0 in=0 out=0 state=running next=13 held=[] numbers={N:0,M:0,I:0} strings={LINE:2242323120202c2c314131202c2c41,C:,A:}\nstep 10: n=0 notes=1 split=- trials=0 in=0 out=0 state=running next=13 held=[] numbers={N:0,M:0,I:0} strings={LINE:2242323120202c2c314131202c2c41,C:,A:}\nstep 11: n=0 notes=1 split=- trials=0 in=0 out=0 state=running next=13 held=[] numbers={N:0,M:0,I:0} strings={LINE:2242323120202c2c314131202c2c41,C:,A:}\nstep 12: n=0 notes=1 split=- trials=0 in=0 out=0 state=running next=13 held=[] numbers={N:0,M:0,I:0} strings={LINE:2242323120202c2c314131202c2c41,C:,A:}\nstep 13: n=0 notes=1 split=- trials=0 in=0 out=0 state=running next=13 held=[] numbers={N:0,M:0,I:0} strings={LINE:2242323120202c2c314131202c2c41,C:,A:}\nstep 14: n=0 notes=1 split=- trials=0 in=0 out=0 state=running next=13 held=[] numbers={N:0,M:0,I:0} strings={LINE:2242323120202c2c314131202c2c41,C:,A:}\nstep 15: n=0 notes=1 split=- trials=0 in=0 out=0 state=running next=13 held=[] numbers={N:0,M:0,I:0} strings={LINE:2242323120202c2c314131202c2c41,C:,A:}\nstep 16: n=0 notes=1 split=- trials=0 in=0 out=0 state=running next=13 held=[] numbers={N:0,M:0,I:0} strings={LINE:2242323120202c2c314131202c2c41,C:,A:}\nstep 17: n=0 notes=1 split=- trials=0 in=0 out=0 state=running next=13 held=[] numbers={N:0,M:0,I:0} strings={LINE:2242323120202c2c314131202c2c41,C:,A:}\nstep 18: n=0 notes=1 split=- trials=0 in=0 out=0 state=running next=13 held=[] numbers={N:0,M:0,I:0} strings={LINE:2242323120202c2c314131202c2c41,C:,A:}\nstep 19: n=0 notes=1 split=- trials=0 in=0 out=0 state=running next=13 held=[] numbers={N:0,M:0,I:0} strings={LINE:2242323120202c2c314131202c2c41,C:,A:}\nstep 20: n=0 notes=1 split=- trials=0 in=0 out=0 state=running next=13 held=[] numbers={N:0,M:0,I:0} strings={LINE:2242323120202c2c314131202c2c41,C:,A:}\nstep 21: n=0 notes=1 split=- trials=0 in=0 out=0 state=running next=13 held=[] numbers={N:0,M:0,I:0} strings={LINE:2242323120202c2c314131202c2c41,C:,A:}\nstep 22: n=0 notes=1 split=- trials=0 in=0 out=0 state=running next=13 held=[] numbers={N:0,M:0,I:0} strings={LINE:2242323120202c2c314131202c2c41,C:,A:}\nstep 23: n=0 notes=1 split=- trials=0 in=0 out=0 state=running next=13 held=[] numbers={N:0,M:0,I:0} strings={LINE:2242323120202c2c314131202c2c41,C:,A:}\nstep 24: n=0 notes=1 split=- trials=0 in=0 out=0 state=running next=13 held=[] numbers={N:0,M:0,I:0} strings={LINE:2242323120202c2c314131202c2c41,C:,A:}\nstep 25: n=0 notes=1 split=- trials=0 in=0 out=0 state=running next=13 held=[] numbers={N:0,M:0,I:0} strings={LINE:2242323120202c2c314131202c2c41,C:,A:}\nstep 26: n=0 notes=1 split=- trials=0 in=0 out=0 state=running next=13 held=[] numbers={N:0,M:0,I:0} strings={LINE:2242323120202c2c314131202c2c41,C:,A:}\nstep 27: n=0 notes=1 split=- trials=0 in=0 out=0 state=running next=13 held=[] numbers={N:0,M:0,I:0} strings={LINE:2242323120202c2c314131202c2c41,C:,A:}\nstep 28: n=0 notes=1 split=- trials=0 in=0 out=0 state=running next=13 held=[] numbers={N:0,M:0,I:0} strings={LINE:2242323120202c2c314131202c2c41,C:,A:}\nstep 29: n=0 notes=1 split=- trials=0 in=0 out=0 state=running next=13 held=[] numbers={N:0,M:0,I:0} strings={LINE:2242323120202c2c314131202c2c41,C:,A:}\nstep 30: n=0 notes=1 split=- trials=0 in=0 out=0 state=running next=13 held=[] numbers={N:0,M:0,I:0} strings={LINE:2242323120202c2c314131202c2c41,C:,A:}\nstep 31: n=0 notes=1 split=- trials=0 in=0 out=0 state=running next=13 held=[] numbers={N:0,M:0,I:0} strings={LINE:2242323120202c2c314131202c2c41,C:,A:}\nstep 32: n=0 notes=1 split=- trials=0 in=0 out=0 state=running next=13 held=[] numbers={N:0,M:0,I:0} strings={LINE:2242323120202c2c314131202c2c41,C:,A:}\nstep 33: n=0 notes=1 split=- trials=0 in=0 out=0 state=running next=13 held=[] numbers={N:0,M:0,I:0} strings={LINE:2242323120202c2c314131202c2c41,C:,A:}\nstep 34: n=0 notes=1 split=- trials=0 in=0 out=0 state=running next=13 held=[] numbers={N:0,M:0,I:0} strings={LINE:2242323120202c2c314131202c2c41,C:,A:}\nstep 35: n=0 notes=1 split=- trials=0 in=0 out=0 state=running next=13 held=[] numbers={N:0,M:0,I:0} strings={LINE:2242323120202c2c314131202c2c41,C:,A:}\nstep 36: n=0 notes=1 split=- trials=0 in=0 out=0 state=running next=13 held=[] numbers={N:0,M:0,I:0} strings={LINE:2242323120202c2c314131202c2c41,C:,A:}\nstep 37: n=0 notes=1 split=- trials=0 in=0 out=0 state=running next=13 held=[] numbers={N:0,M:0,I:0} strings={LINE:2242323120202c2c314131202c2c41,C:,A:}\nstep 38: n=0 notes=1 split=- trials=0 in=0 out=0 state=running next=13 held=[] numbers={N:0,M:0,I:0} strings={LINE:2242323120202c2c314131202c2c41,C:,A:}\nstep 39: n=0 notes=1 split=- trials=0 in=0 out=0 state=running next=13 held=[] numbers={N:0,M:0,I:0} strings={LINE:2242323120202c2c314131202c2c41,C:,A:}\nstep 40: n=0 notes=1 split=- trials=0 in=0 out=0 state=running next=13 held=[] numbers={N:0,M:0,I:0} strings={LINE:2242323120202c2c314131202c2c41,C:,A:}\nstep 41: n=0 notes=1 split=- trials=0 in=0 out=0 state=running next=13 held=[] numbers={N:0,M:0,I:0} strings={LINE:2242323120202c2c314131202c2c41,C:,A:}\nstep 42: n=0 notes=1 split=- trials=0 in=0 out=0 state=running next=13 held=[] numbers={N:0,M:0,I:0} strings={LINE:2242323120202c2c314131202c2c41,C:,A:}\nstep 43: n=0 notes=1 split=- trials=0 in=0 out=0 state=running next=13 held=[] numbers={N:0,M:0,I:0} strings={LINE:2242323120202c2c314131202c2c41,C:,A:}\nstep 44: n=0 notes=1 split=- trials=0 in=0 out=0 state=running next=13 held=[] numbers={N:0,M:0,I:0} strings={LINE:2242323120202c2c314131202c2c41,C:,A:}\nstep 45: n=0 notes=1 split=- trials=0 in=0 out=0 state=running next=13 held=[] numbers={N:0,M:0,I:0} strings={LINE:2242323120202c2c314131202c2c41,C:,A:}\nstep 46: n=0 notes=1 split=- trials=0 in=0 out=0 state=running next=13 held=[] numbers={N:0,M:0,I:0} strings={LINE:2242323120202c2c314131202c2c41,C:,A:}\nstep 47: n=0 notes=1 split=- trials=0 in=0 out=0 state=running next=13 held=[] numbers={N:0,M:0,I:0} strings={LINE:2242323120202c2c314131202c2c41,C:,A:}\nstep 48: n=0 notes=1 split=- trials=0 in=0 out=0 state=running next=13 held=[] numbers={N:0,M:0,I:0} strings={LINE:2242323120202c2c314131202c2c41,C:,A:}\nstep 49: n=0 notes=1 split=- trials=0 in=0 out=0 state=running next=13 held=[] numbers={N:0,M:0,I:0} strings={LINE:2242323120202c2c314131202c2c41,C:,A:}\nstep 50: n=0 notes=1 split=- trials=0 in=0 out=0 state=running next=13 held=[] numbers={N:0,M:0,I:0} strings={LINE:2242323120202c2c314131202c2c41,C:,A:}\nstep 51: n=0 notes=1 split=- trials=0 in=0 out=0 state=running next=13 held=[] numbers={N:0,M:0,I:0} strings={LINE:2242323120202c2c314131202c2c41,C:,A:}\nstep 52: n=0 notes=1 split=- trials=0 in=0 out=0 state=running next=13 held=[] numbers={N:0,M:0,I:0} strings={LINE:2242323120202c2c314131202c2c41,C:,A:}\nstep 53: n=0 notes=1 split=- trials=0 in=0 out=0 state=running next=13 held=[] numbers={N:0,M:0,I:0} strings={LINE:2242323120202c2c314131202c2c41,C:,A:}\nstep 54: n=0 notes=1 split=- trials=0 in=0 out=0 state=running next=13 held=[] numbers={N:0,M:0,I:0} strings={LINE:2242323120202c2c314131202c2c41,C:,A:}\nstep 55: n=0 notes=1 split=- trials=0 in=0 out=0 state=running next=13 held=[] numbers={N:0,M:0,I:0} strings={LINE:2242323120202c2c314131202c2c41,C:,A:}\nstep 56: n=0 notes=1 split=- trials=0 in=0 out=0 state=running next=13 held=[] numbers={N:0,M:0,I:0} strings={LINE:2242323120202c2c314131202c2c41,C:,A:}\nstep 57: n=0 notes=1 split=- trials=0 in=0 out=0 state=running next=13 held=[] numbers={N:0,M:0,I:0} strings={LINE:2242323120202c2c314131202c2c41,C:,A:}\nstep 58: n=0 notes=1 split=- trials=0 in=0 out=0 state=running next=13 held=[] numbers={N:0,M:0,I:0} strings={LINE:2242323120202c2c314131202c2c41,C:,A:}\nstep 59: n=0 notes=1 split=- trials=0 in=0 out=0 state=running next=13 held=[] numbers={N:0,M:0,I:0} strings={LINE:2242323120202c2c314131202c2c41,C:,A:}\nstep 60: n=0 notes=1 split=- trials=0 in=0 out=0 state=running next=13 held=[] numbers={N:0,M:0,I:0} strings={LINE:2242323120202c2c314131202c2c41,C:,A:}\n" ≡ true
unfolding agrees
v096 = refl

v097 : agrees "         PROGRAM P\n         NUMBER PRINT\n         EXECUTE R1\n         GO  TO  L2\n         ROUTINE=STRING(2,PRINT)\n        *BAC  KSCAN A[(ROUTINE),(ROU  TINE$  PRI  NT)]= \",222AA2BAAA1\",S\n         TRING(  PRINT) /L OOP\n         READ(60) ROUTI NE/L  OOP,LOOP\n                                                                        SEQ\nLOOP    +SC AN ROUT INE[A  $0, (B$1),STRING(PRINT,P  RINT),(B),(B)]/ LO \n         OP,L2                                                          SEQ44104\n        XSC AN A[  (ROUTIN  E$3),(ROU  TINE$3)]=\"()02*0)BA,,B\"/  L  O  O\n         P\nL2       ROUTINE R2\nL1      +ENDRO \n          UTINE\n         R  OUTINE R  1\nL3       B=ROUTINE,\"AA,AA1,11 A2\",STRING(-5,PRINT),\"BA\"\nDONE     A=\"1(\",B,\"A\"\nX9       ENDROUTI NE\n        *SCAN A  [ \"2\", A,(  B$0 ),\"2\",(ROUTINE ),(  RO UTINE),\" \"]/ L O\n         OP\n        +SCAN B[(A  )  ,(A$3),(  R OUTI N E  ),\"A\"]  =STRING  (PRINT,PRI\n         N T)/ LOOP\n         B=\"AAA1, BA A,,\",STRING(9,PRINT),STRING(PRINT),A\n* COMMENT 9\n         WRITE(61)\n         IF(NUMERIC(B$2))/L2,LOOP\n         END" "A02\n B10B,-B+,0B\n" "step 1: n=0 notes=0 split=- trials=0 in=0 out=0 state=running next=18 held=[4] numbers={PRINT:0} strings={ROUTINE:,A:,B:}\nstep 2: n=0 notes=0 split=- trials=0 in=0 out=0 state=running next=19 held=[4] numbers={PRINT:0} strings={ROUTINE:,A:,B:41412c4141312c313120413220202020304241}\nstep 3: n=0 notes=0 split=- trials=0 in=0 out=0 state=running next=20 held=[4] numbers={PRINT:0} strings={ROUTINE:,A:312841412c4141312c31312041322020202030424141,B:41412c4141312c313120413220202020304241}\nstep 4: n=0 notes=0 split=- trials=0 in=0 out=0 state=running next=4 held=[] numbers={PRINT:0} strings={ROUTINE:,A:312841412c4141312c31312041322020202030424141,B:41412c4141312c313120413220202020304241}\nstep 5: n=0 notes=0 split=- trials=0 in=0 out=0 state=running next=14 held=[] numbers={PRINT:0} strings={ROUTINE:,A:312841412c4141312c31312041322020202030424141,B:41412c4141312c313120413220202020304241}\nstep 6: n=0 notes=0 split=- trials=0 in=0 out=0 state=running next=17 held=[] numbers={PRINT:0} strings={ROUTINE:,A:312841412c4141312c31312041322020202030424141,B:41412c4141312c313120413220202020304241}\nstep 7: n=0 notes=0 split=- trials=0 in=0 out=0 state=running next=21 held=[] numbers={PRINT:0} strings={ROUTINE:,A:312841412c4141312c31312041322020202030424141,B:41412c4141312c313120413220202020304241}\nstep 8: n=0 notes=0 split=- trials=15 in=0 out=0 state=running next=23 held=[] numbers={PRINT:0} strings={ROUTINE:,A:312841412c4141312c31312041322020202030424141,B:}\nstep 9: n=0 notes=0 split=- trials=1 in=0 out=0 state=running next=25 held=[] numbers={PRINT:0} strings={ROUTINE:,A:,B:}\nstep 10: n=0 notes=0 split=- trials=0 in=0 out=0 state=running next=27 held=[] numbers={PRINT:0} strings={ROUTINE:,A:,B:414141312c20424120412c2c30303030303030303030}\nstep 11: n=0 notes=0 split=- trials=0 in=0 out=0 state=running next=28 held=[] numbers={PRINT:0} strings={ROUTINE:,A:,B:414141312c20424120412c2c30303030303030303030}\nstep 12: n=0 notes=0 split=- trials=0 in=0 out=0 state=running next=10 held=[] numbers={PRINT:0} strings={ROUTINE:,A:,B:414141312c20424120412c2c30303030303030303030}\nstep 13: n=0 notes=0 split=- trials=2 in=0 out=0 state=running next=14 held=[] numbers={PRINT:0} strings={ROUTINE:,A:,B:}\nstep 14: n=0 notes=0 split=- trials=0 in=0 out=0 state=running next=17 held=[] numbers={PRINT:0} strings={ROUTINE:,A:,B:}\nstep 15: n=0 notes=0 split=- trials=0 in=0 out=0 state=running next=21 held=[] numbers={PRINT:0} strings={ROUTINE:,A:,B:}\nstep 16: n=0 notes=0 split=- trials=1 in=0 out=0 state=running next=23 held=[] numbers={PRINT:0} strings={ROUTINE:,A:,B:}\nstep 17: n=0 notes=0 split=- trials=1 in=0 out=0 state=running next=25 held=[] numbers={PRINT:0} strings={ROUTINE:,A:,B:}\nstep 18: n=0 notes=0 split=- trials=0 in=0 out=0 state=running next=27 held=[] numbers={PRINT:0} strings={ROUTINE:,A:,B:414141312c20424120412c2c30303030303030303030}\nstep 19: n=0 notes=0 split=- trials=0 in=0 out=0 state=running next=28 held=[] numbers={PRINT:0} strings={ROUTINE:,A:,B:414141312c20424120412c2c30303030303030303030}\nstep 20: n=0 notes=0 split=- trials=0 in=0 out=0 state=running next=10 held=[] numbers={PRINT:0} strings={ROUTINE:,A:,B:414141312c20424120412c2c30303030303030303030}\nstep 21: n=0 notes=0 split=- trials=2 in=0 out=0 state=running next=14 held=[] numbers={PRINT:0} strings={ROUTINE:,A:,B:}\nstep 22: n=0 notes=0 split=- trials=0 in=0 out=0 state=running next=17 held=[] numbers={PRINT:0} strings={ROUTINE:,A:,B:}\nstep 23: n=0 notes=0 split=- trials=0 in=0 out=0 state=running next=21 held=[] numbers={PRINT:0} strings={ROUTINE:,A:,B:}\nstep 24: n=0 notes=0 split=- trials=1 in=0 out=0 state=running next=23 held=[] numbers={PRINT:0} strings={ROUTINE:,A:,B:}\nstep 25: n=0 notes=0 split=- trials=1 in=0 out=0 state=running next=25 held=[] numbers={PRINT:0} strings={ROUTINE:,A:,B:}\nstep 26: n=0 notes=0 split=- trials=0 in=0 out=0 state=running next=27 held=[] numbers={PRINT:0} strings={ROUTINE:,A:,B:414141312c20424120412c2c30303030303030303030}\nstep 27: n=0 notes=0 split=- trials=0 in=0 out=0 state=running next=28 held=[] numbers={PRINT:0} strings={ROUTINE:,A:,B:414141312c20424120412c2c30303030303030303030}\nstep 28: n=0 notes=0 split=- trials=0 in=0 out=0 state=running next=10 held=[] numbers={PRINT:0} strings={ROUTINE:,A:,B:414141312c20424120412c2c30303030303030303030}\nstep 29: n=0 notes=0 split=- trials=2 in=0 out=0 state=running next=14 held=[] numbers={PRINT:0} strings={ROUTINE:,A:,B:}\nstep 30: n=0 notes=0 split=- trials=0 in=0 out=0 state=running next=17 held=[] numbers={PRINT:0} strings={ROUTINE:,A:,B:}\nstep 31: n=0 notes=0 split=- trials=0 in=0 out=0 state=running next=21 held=[] numbers={PRINT:0} strings={ROUTINE:,A:,B:}\nstep 32: n=0 notes=0 split=- trials=1 in=0 out=0 state=running next=23 held=[] numbers={PRINT:0} strings={ROUTINE:,A:,B:}\nstep 33: n=0 notes=0 split=- trials=1 in=0 out=0 state=running next=25 held=[] numbers={PRINT:0} strings={ROUTINE:,A:,B:}\nstep 34: n=0 notes=0 split=- trials=0 in=0 out=0 state=running next=27 held=[] numbers={PRINT:0} strings={ROUTINE:,A:,B:414141312c20424120412c2c30303030303030303030}\nstep 35: n=0 notes=0 split=- trials=0 in=0 out=0 state=running next=28 held=[] numbers={PRINT:0} strings={ROUTINE:,A:,B:414141312c20424120412c2c30303030303030303030}\nstep 36: n=0 notes=0 split=- trials=0 in=0 out=0 state=running next=10 held=[] numbers={PRINT:0} strings={ROUTINE:,A:,B:414141312c20424120412c2c30303030303030303030}\nstep 37: n=0 notes=0 split=- trials=2 in=0 out=0 state=running next=14 held=[] numbers={PRINT:0} strings={ROUTINE:,A:,B:}\nstep 38: n=0 notes=0 split=- trials=0 in=0 out=0 state=running next=17 held=[] numbers={PRINT:0} strings={ROUTINE:,A:,B:}\nstep 39: n=0 notes=0 split=- trials=0 in=0 out=0 state=running next=21 held=[] numbers={PRINT:0} strings={ROUTINE:,A:,B:}\nstep 40: n=0 notes=0 split=- trials=1 in=0 out=0 state=running next=23 held=[] numbers={PRINT:0} strings={ROUTINE:,A:,B:}\nstep 41: n=0 notes=0 split=- trials=1 in=0 out=0 state=running next=25 held=[] numbers={PRINT:0} strings={ROUTINE:,A:,B:}\nstep 42: n=0 notes=0 split=- trials=0 in=0 out=0 state=running next=27 held=[] numbers={PRINT:0} strings={ROUTINE:,A:,B:414141312c20424120412c2c30303030303030303030}\nstep 43: n=0 notes=0 split=- trials=0 in=0 out=0 state=running next=28 held=[] numbers={PRINT:0} strings={ROUTINE:,A:,B:414141312c20424120412c2c30303030303030303030}\nstep 44: n=0 notes=0 split=- trials=0 in=0 out=0 state=running next=10 held=[] numbers={PRINT:0} strings={ROUTINE:,A:,B:414141312c20424120412c2c30303030303030303030}\nstep 45: n=0 notes=0 split=- trials=2 in=0 out=0 state=running next=14 held=[] numbers={PRINT:0} strings={ROUTINE:,A:,B:}\nstep 46: n=0 notes=0 split=- trials=0 in=0 out=0 state=running next=17 held=[] numbers={PRINT:0} strings={ROUTINE:,A:,B:}\nstep 47: n=0 notes=0 split=- trials=0 in=0 out=0 state=running next=21 held=[] numbers={PRINT:0} strings={ROUTINE:,A:,B:}\nstep 48: n=0 notes=0 split=- trials=1 in=0 out=0 state=running next=23 held=[] numbers={PRINT:0} strings={ROUTINE:,A:,B:}\nstep 49: n=0 notes=0 split=- trials=1 in=0 out=0 state=running next=25 held=[] numbers={PRINT:0} strings={ROUTINE:,A:,B:}\nstep 50: n=0 notes=0 split=- trials=0 in=0 out=0 state=running next=27 held=[] numbers={PRINT:0} strings={ROUTINE:,A:,B:414141312c20424120412c2c30303030303030303030}\nstep 51: n=0 notes=0 split=- trials=0 in=0 out=0 state=running next=28 held=[] numbers={PRINT:0} strings={ROUTINE:,A:,B:414141312c20424120412c2c30303030303030303030}\nstep 52: n=0 notes=0 split=- trials=0 in=0 out=0 state=running next=10 held=[] numbers={PRINT:0} strings={ROUTINE:,A:,B:414141312c20424120412c2c30303030303030303030}\nstep 53: n=0 notes=0 split=- trials=2 in=0 out=0 state=running next=14 held=[] numbers={PRINT:0} strings={ROUTINE:,A:,B:}\nstep 54: n=0 notes=0 split=- trials=0 in=0 out=0 state=running next=17 held=[] numbers={PRINT:0} strings={ROUTINE:,A:,B:}\nstep 55: n=0 notes=0 split=- trials=0 in=0 out=0 state=running next=21 held=[] numbers={PRINT:0} strings={ROUTINE:,A:,B:}\nstep 56: n=0 notes=0 split=- trials=1 in=0 out=0 state=running next=23 held=[] numbers={PRINT:0} strings={ROUTINE:,A:,B:}\nstep 57: n=0 notes=0 split=- trials=1 in=0 out=0 state=running next=25 held=[] numbers={PRINT:0} strings={ROUTINE:,A:,B:}\nstep 58: n=0 notes=0 split=- trials=0 in=0 out=0 state=running next=27 held=[] numbers={PRINT:0} strings={ROUTINE:,A:,B:414141312c20424120412c2c30303030303030303030}\nstep 59: n=0 notes=0 split=- trials=0 in=0 out=0 state=running next=28 held=[] numbers={PRINT:0} strings={ROUTINE:,A:,B:414141312c20424120412c2c30303030303030303030}\nstep 60: n=0 notes=0 split=- trials=0 in=0 out=0 state=running next=10 held=[] numbers={PRINT:0} strings={ROUTINE:,A:,B:414141312c20424120412c2c30303030303030303030}\n" ≡ true
unfolding agrees
v097 = refl

v098 : agrees "         PR  OGR AM   LOTS\n         NUMBER N,M,I,K9\n         WRITE \"BA\"\n         A=A,STRING(M),A,\"\"\"\n        *SCAN A$ K9[(B ),(C  ) ,STR  ING(-06,K 9) ,\"B2121,A11  A\",(C )]=\n         /LOO  P, L3\n         BAC KS  CA N C [\"-$21B\", (A $3)]=/,L2\n L3      B=\n         WRITE(61) C\n X9      G O TO   X9\nLOOP     M =-  165                                                      SEQ01434\n L2      ROUTINE R1\nDONE     BACKSCAN C$7[(B$2),A]/DONE,L1\n         IF(NUMERIC(A))/DO  NE\n L1      N=+(LENGTH(C))+(NUMBER(A))-LENGTH(A)\n         ENDROUTINE\n* COMMENT 7\n         END\n" "-A-\n\n\n-  1A+\n" "step 1: n=0 notes=0 split=- trials=0 in=0 out=3 state=running next=4 held=[] numbers={N:0,M:0,I:0,K9:0} strings={A:,B:,C:}\nstep 2: n=0 notes=0 split=- trials=0 in=0 out=3 state=running next=5 held=[] numbers={N:0,M:0,I:0,K9:0} strings={A:3022,B:,C:}\nstep 3: n=0 notes=0 split=- trials=1 in=0 out=3 state=running next=8 held=[] numbers={N:0,M:0,I:0,K9:0} strings={A:3022,B:,C:}\nstep 4: n=0 notes=0 split=- trials=0 in=0 out=3 state=running next=9 held=[] numbers={N:0,M:0,I:0,K9:0} strings={A:3022,B:,C:}\nstep 5: n=0 notes=0 split=- trials=0 in=0 out=3 state=running next=10 held=[] numbers={N:0,M:0,I:0,K9:0} strings={A:3022,B:,C:}\nstep 6: n=0 notes=0 split=- trials=0 in=0 out=3 state=running next=10 held=[] numbers={N:0,M:0,I:0,K9:0} strings={A:3022,B:,C:}\nstep 7: n=0 notes=0 split=- trials=0 in=0 out=3 state=running next=10 held=[] numbers={N:0,M:0,I:0,K9:0} strings={A:3022,B:,C:}\nstep 8: n=0 notes=0 split=- trials=0 in=0 out=3 state=running next=10 held=[] numbers={N:0,M:0,I:0,K9:0} strings={A:3022,B:,C:}\nstep 9: n=0 notes=0 split=- trials=0 in=0 out=3 state=running next=10 held=[] numbers={N:0,M:0,I:0,K9:0} strings={A:3022,B:,C:}\nstep 10: n=0 notes=0 split=- trials=0 in=0 out=3 state=running next=10 held=[] numbers={N:0,M:0,I:0,K9:0} strings={A:3022,B:,C:}\nstep 11: n=0 notes=0 split=- trials=0 in=0 out=3 state=running next=10 held=[] numbers={N:0,M:0,I:0,K9:0} strings={A:3022,B:,C:}\nstep 12: n=0 notes=0 split=- trials=0 in=0 out=3 state=running next=10 held=[] numbers={N:0,M:0,I:0,K9:0} strings={A:3022,B:,C:}\nstep 13: n=0 notes=0 split=- trials=0 in=0 out=3 state=running next=10 held=[] numbers={N:0,M:0,I:0,K9:0} strings={A:3022,B:,C:}\nstep 14: n=0 notes=0 split=- trials=0 in=0 out=3 state=running next=10 held=[] numbers={N:0,M:0,I:0,K9:0} strings={A:3022,B:,C:}\nstep 15: n=0 notes=0 split=- trials=0 in=0 out=3 state=running next=10 held=[] numbers={N:0,M:0,I:0,K9:0} strings={A:3022,B:,C:}\nstep 16: n=0 notes=0 split=- trials=0 in=0 out=3 state=running next=10 held=[] numbers={N:0,M:0,I:0,K9:0} strings={A:3022,B:,C:}\nstep 17: n=0 notes=0 split=- trials=0 in=0 out=3 state=running next=10 held=[] numbers={N:0,M:0,I:0,K9:0} strings={A:3022,B:,C:}\nstep 18: n=0 notes=0 split=- trials=0 in=0 out=3 state=running next=10 held=[] numbers={N:0,M:0,I:0,K9:0} strings={A:3022,B:,C:}\nstep 19: n=0 notes=0 split=- trials=0 in=0 out=3 state=running next=10 held=[] numbers={N:0,M:0,I:0,K9:0} strings={A:3022,B:,C:}\nstep 20: n=0 notes=0 split=- trials=0 in=0 out=3 state=running next=10 held=[] numbers={N:0,M:0,I:0,K9:0} strings={A:3022,B:,C:}\nstep 21: n=0 notes=0 split=- trials=0 in=0 out=3 state=running next=10 held=[] numbers={N:0,M:0,I:0,K9:0} strings={A:3022,B:,C:}\nstep 22: n=0 notes=0 split=- trials=0 in=0 out=3 state=running next=10 held=[] numbers={N:0,M:0,I:0,K9:0} strings={A:3022,B:,C:}\nstep 23: n=0 notes=0 split=- trials=0 in=0 out=3 state=running next=10 held=[] numbers={N:0,M:0,I:0,K9:0} strings={A:3022,B:,C:}\nstep 24: n=0 notes=0 split=- trials=0 in=0 out=3 state=running next=10 held=[] numbers={N:0,M:0,I:0,K9:0} strings={A:3022,B:,C:}\nstep 25: n=0 notes=0 split=- trials=0 in=0 out=3 state=running next=10 held=[] numbers={N:0,M:0,I:0,K9:0} strings={A:3022,B:,C:}\nstep 26: n=0 notes=0 split=- trials=0 in=0 out=3 state=running next=10 held=[] numbers={N:0,M:0,I:0,K9:0} strings={A:3022,B:,C:}\nstep 27: n=0 notes=0 split=- trials=0 in=0 out=3 state=running next=10 held=[] numbers={N:0,M:0,I:0,K9:0} strings={A:3022,B:,C:}\nstep 28: n=0 notes=0 split=- trials=0 in=0 out=3 state=running next=10 held=[] numbers={N:0,M:0,I:0,K9:0} strings={A:3022,B:,C:}\nstep 29: n=0 notes=0 split=- trials=0 in=0 out=3 state=running next=10 held=[] numbers={N:0,M:0,I:0,K9:0} strings={A:3022,B:,C:}\nstep 30: n=0 notes=0 split=- trials=0 in=0 out=3 state=running next=10 held=[] numbers={N:0,M:0,I:0,K9:0} strings={A:3022,B:,C:}\nstep 31: n=0 notes=0 split=- trials=0 in=0 out=3 state=running next=10 held=[] numbers={N:0,M:0,I:0,K9:0} strings={A:3022,B:,C:}\nstep 32: n=0 notes=0 split=- trials=0 in=0 out=3 state=running next=10 held=[] numbers={N:0,M:0,I:0,K9:0} strings={A:3022,B:,C:}\nstep 33: n=0 notes=0 split=- trials=0 in=0 out=3 state=running next=10 held=[] numbers={N:0,M:0,I:0,K9:0} strings={A:3022,B:,C:}\nstep 34: n=0 notes=0 split=- trials=0 in=0 out=3 state=running next=10 held=[] numbers={N:0,M:0,I:0,K9:0} strings={A:3022,B:,C:}\nstep 35: n=0 notes=0 split=- trials=0 in=0 out=3 state=running next=10 held=[] numbers={N:0,M:0,I:0,K9:0} strings={A:3022,B:,C:}\nstep 36: n=0 notes=0 split=- trials=0 in=0 out=3 state=running next=10 held=[] numbers={N:0,M:0,I:0,K9:0} strings={A:3022,B:,C:}\nstep 37: n=0 notes=0 split=- trials=0 in=0 out=3 state=running next=10 held=[] numbers={N:0,M:0,I:0,K9:0} strings={A:3022,B:,C:}\nstep 38: n=0 notes=0 split=- trials=0 in=0 out=3 state=running next=10 held=[] numbers={N:0,M:0,I:0,K9:0} strings={A:3022,B:,C:}\nstep 39: n=0 notes=0 split=- trials=0 in=0 out=3 state=running next=10 held=[] numbers={N:0,M:0,I:0,K9:0} strings={A:3022,B:,C:}\nstep 40: n=0 notes=0 split=- trials=0 in=0 out=3 state=running next=10 held=[] numbers={N:0,M:0,I:0,K9:0} strings={A:3022,B:,C:}\nstep 41: n=0 notes=0 split=- trials=0 in=0 out=3 state=running next=10 held=[] numbers={N:0,M:0,I:0,K9:0} strings={A:3022,B:,C:}\nstep 42: n=0 notes=0 split=- trials=0 in=0 out=3 state=running next=10 held=[] numbers={N:0,M:0,I:0,K9:0} strings={A:3022,B:,C:}\nstep 43: n=0 notes=0 split=- trials=0 in=0 out=3 state=running next=10 held=[] numbers={N:0,M:0,I:0,K9:0} strings={A:3022,B:,C:}\nstep 44: n=0 notes=0 split=- trials=0 in=0 out=3 state=running next=10 held=[] numbers={N:0,M:0,I:0,K9:0} strings={A:3022,B:,C:}\nstep 45: n=0 notes=0 split=- trials=0 in=0 out=3 state=running next=10 held=[] numbers={N:0,M:0,I:0,K9:0} strings={A:3022,B:,C:}\nstep 46: n=0 notes=0 split=- trials=0 in=0 out=3 state=running next=10 held=[] numbers={N:0,M:0,I:0,K9:0} strings={A:3022,B:,C:}\nstep 47: n=0 notes=0 split=- trials=0 in=0 out=3 state=running next=10 held=[] numbers={N:0,M:0,I:0,K9:0} strings={A:3022,B:,C:}\nstep 48: n=0 notes=0 split=- trials=0 in=0 out=3 state=running next=10 held=[] numbers={N:0,M:0,I:0,K9:0} strings={A:3022,B:,C:}\nstep 49: n=0 notes=0 split=- trials=0 in=0 out=3 state=running next=10 held=[] numbers={N:0,M:0,I:0,K9:0} strings={A:3022,B:,C:}\nstep 50: n=0 notes=0 split=- trials=0 in=0 out=3 state=running next=10 held=[] numbers={N:0,M:0,I:0,K9:0} strings={A:3022,B:,C:}\nstep 51: n=0 notes=0 split=- trials=0 in=0 out=3 state=running next=10 held=[] numbers={N:0,M:0,I:0,K9:0} strings={A:3022,B:,C:}\nstep 52: n=0 notes=0 split=- trials=0 in=0 out=3 state=running next=10 held=[] numbers={N:0,M:0,I:0,K9:0} strings={A:3022,B:,C:}\nstep 53: n=0 notes=0 split=- trials=0 in=0 out=3 state=running next=10 held=[] numbers={N:0,M:0,I:0,K9:0} strings={A:3022,B:,C:}\nstep 54: n=0 notes=0 split=- trials=0 in=0 out=3 state=running next=10 held=[] numbers={N:0,M:0,I:0,K9:0} strings={A:3022,B:,C:}\nstep 55: n=0 notes=0 split=- trials=0 in=0 out=3 state=running next=10 held=[] numbers={N:0,M:0,I:0,K9:0} strings={A:3022,B:,C:}\nstep 56: n=0 notes=0 split=- trials=0 in=0 out=3 state=running next=10 held=[] numbers={N:0,M:0,I:0,K9:0} strings={A:3022,B:,C:}\nstep 57: n=0 notes=0 split=- trials=0 in=0 out=3 state=running next=10 held=[] numbers={N:0,M:0,I:0,K9:0} strings={A:3022,B:,C:}\nstep 58: n=0 notes=0 split=- trials=0 in=0 out=3 state=running next=10 held=[] numbers={N:0,M:0,I:0,K9:0} strings={A:3022,B:,C:}\nstep 59: n=0 notes=0 split=- trials=0 in=0 out=3 state=running next=10 held=[] numbers={N:0,M:0,I:0,K9:0} strings={A:3022,B:,C:}\nstep 60: n=0 notes=0 split=- trials=0 in=0 out=3 state=running next=10 held=[] numbers={N:0,M:0,I:0,K9:0} strings={A:3022,B:,C:}\n" ≡ true
unfolding agrees
v098 = refl

v099 : agrees "         PR OGRAM T  EST1\n         NUMBER N,M,I\n         C=S  TRING  ( -2,N),  STRING(0,N )\n         BACKSCAN A[(B$3),\"A2\"]=A$I\nLOOP     ROU  TI  NE R3\n         C$2=\n         B=A$N,STRING(0,I),B\nL2       READ(60) A\n         B=\"A,\",STRING(M)\n         ENDROUTINE\n         RO  U  TINE R2\n X9      SCAN B$7[(A$1),(C$1),B]\nL1       ENDROUTINE\n         ROUTINE R1\n         I= +(  (NUMBE  R  (A)))\n         IF(NUMERIC(C))/,L3\n                                                                        SEQ\n         N=3/((LENGTH(A)+N))-I\nL3       SC AN  C[(  A),\"AA\"]=/L  3\n         ENDROUTINE\n         WRITE \",(2\"\n         BACKSCAN A$1[C,(B)]/,LOOP\n         IF(NUMBER(C$M)>+5)/,DONE\n         C  = A $3\n         PRINT A$I\n         READ A/,DONE\n         GO TO LOOP\nDONE     END \n" " A++-BB0BA1A-AB-A--+AAAA000AA121,0-+1,A \n-2AB,-AB,+B0-AAA,,1A+AB22,AA+AB2BA21, AA\n,\n0" "step 1: n=0 notes=0 split=- trials=0 in=0 out=0 state=running next=4 held=[] numbers={N:0,M:0,I:0} strings={C:203030,A:,B:}\nstep 2: n=0 notes=0 split=- trials=1 in=0 out=0 state=running next=5 held=[] numbers={N:0,M:0,I:0} strings={C:203030,A:,B:}\nstep 3: n=0 notes=0 split=- trials=0 in=0 out=0 state=running next=11 held=[] numbers={N:0,M:0,I:0} strings={C:203030,A:,B:}\nstep 4: n=0 notes=0 split=- trials=0 in=0 out=0 state=running next=14 held=[] numbers={N:0,M:0,I:0} strings={C:203030,A:,B:}\nstep 5: n=0 notes=0 split=- trials=0 in=0 out=0 state=running next=21 held=[] numbers={N:0,M:0,I:0} strings={C:203030,A:,B:}\nstep 6: n=0 notes=0 split=- trials=0 in=0 out=4 state=running next=22 held=[] numbers={N:0,M:0,I:0} strings={C:203030,A:,B:}\nstep 7: n=0 notes=0 split=- trials=1 in=0 out=4 state=running next=5 held=[] numbers={N:0,M:0,I:0} strings={C:203030,A:,B:}\nstep 8: n=0 notes=0 split=- trials=0 in=0 out=4 state=running next=11 held=[] numbers={N:0,M:0,I:0} strings={C:203030,A:,B:}\nstep 9: n=0 notes=0 split=- trials=0 in=0 out=4 state=running next=14 held=[] numbers={N:0,M:0,I:0} strings={C:203030,A:,B:}\nstep 10: n=0 notes=0 split=- trials=0 in=0 out=4 state=running next=21 held=[] numbers={N:0,M:0,I:0} strings={C:203030,A:,B:}\nstep 11: n=0 notes=0 split=- trials=0 in=0 out=8 state=running next=22 held=[] numbers={N:0,M:0,I:0} strings={C:203030,A:,B:}\nstep 12: n=0 notes=0 split=- trials=1 in=0 out=8 state=running next=5 held=[] numbers={N:0,M:0,I:0} strings={C:203030,A:,B:}\nstep 13: n=0 notes=0 split=- trials=0 in=0 out=8 state=running next=11 held=[] numbers={N:0,M:0,I:0} strings={C:203030,A:,B:}\nstep 14: n=0 notes=0 split=- trials=0 in=0 out=8 state=running next=14 held=[] numbers={N:0,M:0,I:0} strings={C:203030,A:,B:}\nstep 15: n=0 notes=0 split=- trials=0 in=0 out=8 state=running next=21 held=[] numbers={N:0,M:0,I:0} strings={C:203030,A:,B:}\nstep 16: n=0 notes=0 split=- trials=0 in=0 out=12 state=running next=22 held=[] numbers={N:0,M:0,I:0} strings={C:203030,A:,B:}\nstep 17: n=0 notes=0 split=- trials=1 in=0 out=12 state=running next=5 held=[] numbers={N:0,M:0,I:0} strings={C:203030,A:,B:}\nstep 18: n=0 notes=0 split=- trials=0 in=0 out=12 state=running next=11 held=[] numbers={N:0,M:0,I:0} strings={C:203030,A:,B:}\nstep 19: n=0 notes=0 split=- trials=0 in=0 out=12 state=running next=14 held=[] numbers={N:0,M:0,I:0} strings={C:203030,A:,B:}\nstep 20: n=0 notes=0 split=- trials=0 in=0 out=12 state=running next=21 held=[] numbers={N:0,M:0,I:0} strings={C:203030,A:,B:}\nstep 21: n=0 notes=0 split=- trials=0 in=0 out=16 state=running next=22 held=[] numbers={N:0,M:0,I:0} strings={C:203030,A:,B:}\nstep 22: n=0 notes=0 split=- trials=1 in=0 out=16 state=running next=5 held=[] numbers={N:0,M:0,I:0} strings={C:203030,A:,B:}\nstep 23: n=0 notes=0 split=- trials=0 in=0 out=16 state=running next=11 held=[] numbers={N:0,M:0,I:0} strings={C:203030,A:,B:}\nstep 24: n=0 notes=0 split=- trials=0 in=0 out=16 state=running next=14 held=[] numbers={N:0,M:0,I:0} strings={C:203030,A:,B:}\nstep 25: n=0 notes=0 split=- trials=0 in=0 out=16 state=running next=21 held=[] numbers={N:0,M:0,I:0} strings={C:203030,A:,B:}\nstep 26: n=0 notes=0 split=- trials=0 in=0 out=20 state=running next=22 held=[] numbers={N:0,M:0,I:0} strings={C:203030,A:,B:}\nstep 27: n=0 notes=0 split=- trials=1 in=0 out=20 state=running next=5 held=[] numbers={N:0,M:0,I:0} strings={C:203030,A:,B:}\nstep 28: n=0 notes=0 split=- trials=0 in=0 out=20 state=running next=11 held=[] numbers={N:0,M:0,I:0} strings={C:203030,A:,B:}\nstep 29: n=0 notes=0 split=- trials=0 in=0 out=20 state=running next=14 held=[] numbers={N:0,M:0,I:0} strings={C:203030,A:,B:}\nstep 30: n=0 notes=0 split=- trials=0 in=0 out=20 state=running next=21 held=[] numbers={N:0,M:0,I:0} strings={C:203030,A:,B:}\nstep 31: n=0 notes=0 split=- trials=0 in=0 out=24 state=running next=22 held=[] numbers={N:0,M:0,I:0} strings={C:203030,A:,B:}\nstep 32: n=0 notes=0 split=- trials=1 in=0 out=24 state=running next=5 held=[] numbers={N:0,M:0,I:0} strings={C:203030,A:,B:}\nstep 33: n=0 notes=0 split=- trials=0 in=0 out=24 state=running next=11 held=[] numbers={N:0,M:0,I:0} strings={C:203030,A:,B:}\nstep 34: n=0 notes=0 split=- trials=0 in=0 out=24 state=running next=14 held=[] numbers={N:0,M:0,I:0} strings={C:203030,A:,B:}\nstep 35: n=0 notes=0 split=- trials=0 in=0 out=24 state=running next=21 held=[] numbers={N:0,M:0,I:0} strings={C:203030,A:,B:}\nstep 36: n=0 notes=0 split=- trials=0 in=0 out=28 state=running next=22 held=[] numbers={N:0,M:0,I:0} strings={C:203030,A:,B:}\nstep 37: n=0 notes=0 split=- trials=1 in=0 out=28 state=running next=5 held=[] numbers={N:0,M:0,I:0} strings={C:203030,A:,B:}\nstep 38: n=0 notes=0 split=- trials=0 in=0 out=28 state=running next=11 held=[] numbers={N:0,M:0,I:0} strings={C:203030,A:,B:}\nstep 39: n=0 notes=0 split=- trials=0 in=0 out=28 state=running next=14 held=[] numbers={N:0,M:0,I:0} strings={C:203030,A:,B:}\nstep 40: n=0 notes=0 split=- trials=0 in=0 out=28 state=running next=21 held=[] numbers={N:0,M:0,I:0} strings={C:203030,A:,B:}\nstep 41: n=0 notes=0 split=- trials=0 in=0 out=32 state=running next=22 held=[] numbers={N:0,M:0,I:0} strings={C:203030,A:,B:}\nstep 42: n=0 notes=0 split=- trials=1 in=0 out=32 state=running next=5 held=[] numbers={N:0,M:0,I:0} strings={C:203030,A:,B:}\nstep 43: n=0 notes=0 split=- trials=0 in=0 out=32 state=running next=11 held=[] numbers={N:0,M:0,I:0} strings={C:203030,A:,B:}\nstep 44: n=0 notes=0 split=- trials=0 in=0 out=32 state=running next=14 held=[] numbers={N:0,M:0,I:0} strings={C:203030,A:,B:}\nstep 45: n=0 notes=0 split=- trials=0 in=0 out=32 state=running next=21 held=[] numbers={N:0,M:0,I:0} strings={C:203030,A:,B:}\nstep 46: n=0 notes=0 split=- trials=0 in=0 out=36 state=running next=22 held=[] numbers={N:0,M:0,I:0} strings={C:203030,A:,B:}\nstep 47: n=0 notes=0 split=- trials=1 in=0 out=36 state=running next=5 held=[] numbers={N:0,M:0,I:0} strings={C:203030,A:,B:}\nstep 48: n=0 notes=0 split=- trials=0 in=0 out=36 state=running next=11 held=[] numbers={N:0,M:0,I:0} strings={C:203030,A:,B:}\nstep 49: n=0 notes=0 split=- trials=0 in=0 out=36 state=running next=14 held=[] numbers={N:0,M:0,I:0} strings={C:203030,A:,B:}\nstep 50: n=0 notes=0 split=- trials=0 in=0 out=36 state=running next=21 held=[] numbers={N:0,M:0,I:0} strings={C:203030,A:,B:}\nstep 51: n=0 notes=0 split=- trials=0 in=0 out=40 state=running next=22 held=[] numbers={N:0,M:0,I:0} strings={C:203030,A:,B:}\nstep 52: n=0 notes=0 split=- trials=1 in=0 out=40 state=running next=5 held=[] numbers={N:0,M:0,I:0} strings={C:203030,A:,B:}\nstep 53: n=0 notes=0 split=- trials=0 in=0 out=40 state=running next=11 held=[] numbers={N:0,M:0,I:0} strings={C:203030,A:,B:}\nstep 54: n=0 notes=0 split=- trials=0 in=0 out=40 state=running next=14 held=[] numbers={N:0,M:0,I:0} strings={C:203030,A:,B:}\nstep 55: n=0 notes=0 split=- trials=0 in=0 out=40 state=running next=21 held=[] numbers={N:0,M:0,I:0} strings={C:203030,A:,B:}\nstep 56: n=0 notes=0 split=- trials=0 in=0 out=44 state=running next=22 held=[] numbers={N:0,M:0,I:0} strings={C:203030,A:,B:}\nstep 57: n=0 notes=0 split=- trials=1 in=0 out=44 state=running next=5 held=[] numbers={N:0,M:0,I:0} strings={C:203030,A:,B:}\nstep 58: n=0 notes=0 split=- trials=0 in=0 out=44 state=running next=11 held=[] numbers={N:0,M:0,I:0} strings={C:203030,A:,B:}\nstep 59: n=0 notes=0 split=- trials=0 in=0 out=44 state=running next=14 held=[] numbers={N:0,M:0,I:0} strings={C:203030,A:,B:}\nstep 60: n=0 notes=0 split=- trials=0 in=0 out=44 state=running next=21 held=[] numbers={N:0,M:0,I:0} strings={C:203030,A:,B:}\n" ≡ true
unfolding agrees
v099 = refl

v100 : agrees "         PROGRAM LOTS\n         NUMBER N,  M  ,I,K  9\nL1      +K9=NUMBER(C)-5377937/N*(LENGTH(S1)+(K9)*NUMBER(B)+1297+(+M+1-(7\n         )))-0\n         BACKSCAN S1[]/L1,L1\n X9     *SC AN LI  NE$4[( C$I),(S1),ST  RING(-1,N)  ,ST RING(N,K9 ),A,  \n         ST RING(0,I  ),(A)]  =B,S 1$K9  ,\"A\",STRING( M ,I)/X9,L1\n         READ( 60) B/L1,L  1\n   \n         SCAN LINE[(B$M),\"B\"]/,L1\n         WR IT E(61)   \n         ROUTINE R2\n DONE    PRIN T \" \"\nL3       I=  3+03-2\n         EN DR  O UT INE\n                                                                        SEQ\n         EXE  CUTE R3\n         IF(M<4)/  L1,X9\n         A$4=STRING(M),B\n         WRITE \"A A 2\",A,\",)-\"\n         IF(M<=  N)/X9,L  1\n* COMMENT 3\n         M=3/I-M\n         ROUTINE R3\n* COMMENT 5\n LOOP    WR ITE B\n         ENDROUTINE\n         RO  U TINE R1                                                  SEQ94234\n         SCAN  S1[(B) ,(A),(A),(A$1), \" A\"]/L2,L2  \n         WRITE STRIN  G(K9 )                                            SEQ97702\n         K9=4                                                           SEQ90558\n         READ A\nL2       E NDR  OUTINE\n         B A  CKSCAN  B[(LINE$N),(C)]/L1\n         E  ND\n" "2 1+A-A- 0,A1AA+BA,++2B2 0 02 2 ,+1-0+A2\n2 ,\n" "step 1: n=18 notes=0 split=- trials=0 in=0 out=0 state=stopped next=3 held=[] numbers={N:0,M:0,I:0,K9:0} strings={C:,S1:,B:,LINE:,A:}\n" ≡ true
unfolding agrees
v100 = refl

v101 : agrees "         PR O G  RAM P\n         N  UM BER N  ,M  ,I\n* COMMENT 3\n   \nLOOP     PRIN T  F,\"2\"\n* COMMENT 1\n         SCAN F  $1[]=\"BB\"/X9\n* COMMENT 9\n                                                                        SEQ\n        +SCAN TEXTLONG$I[\"AA\",(A$M),(G$3),STRING(I),S1$3,(G$0),LINE$I]/L\nIGNORED  OOP,LOOP\n         PRINT \",\"\n         WRITE STRING(M),STRING(-1,I)\n* COMMENT 1\n         READ(60  ) B/,X9\n         S1=\"A\",STRING(M)\n         SC AN   C$6[\"AB\",\"0(+1,(=0+22+\"]=\n         R EAD( 60 ) B$N/ ,LOOP\n         READ C$M/L1\n         I F(N UMERIC(G))/X9\n         ROUTINE R1\n         W  RI TE(61)  \" \"\n         F=TEXTLONG$02\n L2      WRITE \n         ENDROUTINE                                                     SEQ46646\n         SCAN LINE[STRING(N),STRING(0,N),A]=STRING(0,N),F$5\n         ROUTINE R2\n\n         LINE$  2= \"B \",B ,C$6\nL3       R EA D LINE$I/,L3\nDONE     ENDROUTINE\nX9       WRITE(61) \"0)=1BA=B)/()\"\nL1       END\n" " -AAB2+-A,B-\n,0A\n010AA2AB-A A\nAAAAAAAAAAAAAAAAAAAAAAAAAAAAAAAAAAAAAAAAAAAAAAAAAAAAAAAAAAAAAAAAAAAAAAAAAAAAAAAAAAAAAAAAAAAAAAAAAAAAAAAAAAAAAAAAAAAAAAAAAAAAAAAAAAAAAAAAAAAAAAAAAAAAAAAAAAAAAAAAAAAAAAAAAAAAAAAAAAAAAAAAAAAAAAAAAAAAAAAAAAAAAAAAAAAAAAAAAAAAAAAAAAAAAAAAAAAAAAAAAAAAAAAAAAAAAAAAAAAAAAAAAAAAAAAAAAAAAAAAAAAAAAAAAAAAAAAAAAAAAAAAAAAAAAAAAAAAAAAAAAAAAAAAAAAAAAAAAAAAAAAAAAAAAAAAAAAAAAAAAAAAAAAAAAAAAAAAAAAAAAAAAAAAAAAAAAAAAAAAAAAAAAAAAAAAAAAAAAAAAAAAAAAAAAAAAAAAAAAAAAAAAAAAAAAAAAAAAAAAAAAAAAAAAAAAAAAAAAAAAAAAAAAAAAAAAAAAAAAAAAAAAAAAAAAAAAAAAAAAAAAAAAAAAAAAAAAAAAAAAAAAAAAAAAAAAAAAAAAAAAAAAAAAAAAAAAAAAAAAAAAAAAAAAAAAAAAAAAAAAAAAAAAAAAAAAAAAAAAAAAAAAAAAAAAAAAAAAAAAAAAAAAAAAAAAAAAAAAAAAAAAAAAAAAAAAAAAAAAAAAAAAAAAAAAAAAAAAAAAAAAAAAAAAAAAAAAAAAAAAAAAAAAAAAAAAAAAAAAAAAAAAAAAAAAAAAAAAAAAAAAAAAAAAAAAAAAAAAAAAAAAAAAAAAAAAAAAAAAAAAAAAAAAAAAAAAAAAAAAAAAAAAAAAAAAAAAAAAAAAAAAAAAAAAAAAAAAAAAAAAAAAAAAAAAAAAAAAAAAAAAAAAAAAAAAAAAAAAAAAAAAAAAAAAAAAAAAAAAAAAAAAAAAAAAAAAAAAAAAAAAAAAAAAAAAAAAAAAAAAAAAAAAAAAAAAAAAAAAAAAAAAAAAAAAAAAAAAAAAAAAAAAAAAAAAAAAAAAAAAAAAAAAAAAAAAAAAAAAAAAAAAAAAAAAAAAAAAAAAAAAAAAAAAAAAAA\n" "step 1: n=0 notes=0 split=- trials=0 in=0 out=2 state=running next=7 held=[] numbers={N:0,M:0,I:0} strings={F:,TEXTLONG:,A:,G:,S1:,LINE:,B:,C:}\nstep 2: n=0 notes=0 split=0; trials=0 in=0 out=2 state=running next=32 held=[] numbers={N:0,M:0,I:0} strings={F:4242,TEXTLONG:,A:,G:,S1:,LINE:,B:,C:}\nstep 3: n=0 notes=0 split=- trials=0 in=0 out=15 state=running next=33 held=[] numbers={N:0,M:0,I:0} strings={F:4242,TEXTLONG:,A:,G:,S1:,LINE:,B:,C:}\nstep 4: n=0 notes=0 split=- trials=0 in=0 out=15 state=finished next=33 held=[] numbers={N:0,M:0,I:0} strings={F:4242,TEXTLONG:,A:,G:,S1:,LINE:,B:,C:}\n" ≡ true
unfolding agrees
v101 = refl

v102 : agrees "         P ROGRAM   P\n         NUM  BER  N,M,I, K9,C OUNT\n* COMMENT 7\nDONE     READ(60) F                                                     SEQ49651\n         IF(-7>M)/L3\n         I  =I\n         B$M =\"2 ,\",\"A 2,AA ABAAA\",\",B 1 A2A ,,A\",TEXTLONG\n         READ F$5/LOOP\n         LINE$N=TEXTLONG,STRING(-0002,I),\"2- -/2,2/A1/\"\n         BACK  SC  AN   F[(T  EXTLONG$0)] /,L OOP\n         ROUTINE R2\n L2      IF(4  > = LEN GTH(S1))/L1\nL1       READ F\n         ENDROUT  INE                                                   SEQ30200\n         WRITE(61) TEXTLONG$N\n         ROUTI NE R1\n* COMMENT 7\nX9       ENDROUTINE\n                                                                        SEQ\nL3       BACK SCAN S1[(F) ,B,B]=STRIN G(K9)/LO OP\n* COMMENT 3\n         IF(+8<=0001)/DONE\nLOOP     READ F$K9\n         END" "-\n12B11+\n" "step 1: n=0 notes=0 split=- trials=0 in=2 out=0 state=running next=5 held=[] numbers={N:0,M:0,I:0,K9:0,COUNT:0} strings={F:2d,B:,TEXTLONG:,LINE:,S1:}\nstep 2: n=0 notes=0 split=- trials=0 in=2 out=0 state=running next=6 held=[] numbers={N:0,M:0,I:0,K9:0,COUNT:0} strings={F:2d,B:,TEXTLONG:,LINE:,S1:}\nstep 3: n=0 notes=0 split=- trials=0 in=2 out=0 state=running next=7 held=[] numbers={N:0,M:0,I:0,K9:0,COUNT:0} strings={F:2d,B:,TEXTLONG:,LINE:,S1:}\nstep 4: n=0 notes=0 split=- trials=0 in=2 out=0 state=running next=8 held=[] numbers={N:0,M:0,I:0,K9:0,COUNT:0} strings={F:2d,B:32202c4120322c41412041424141412c42203120413241202c2c41,TEXTLONG:,LINE:,S1:}\nstep 5: n=0 notes=1 split=- trials=0 in=9 out=0 state=running next=23 held=[] numbers={N:0,M:0,I:0,K9:0,COUNT:0} strings={F:3132423131,B:32202c4120322c41412041424141412c42203120413241202c2c41,TEXTLONG:,LINE:,S1:}\nstep 6: n=0 notes=0 split=- trials=0 in=9 out=0 state=running next=24 held=[] numbers={N:0,M:0,I:0,K9:0,COUNT:0} strings={F:3132423131,B:32202c4120322c41412041424141412c42203120413241202c2c41,TEXTLONG:,LINE:,S1:}\nstep 7: n=0 notes=0 split=- trials=0 in=9 out=0 state=finished next=24 held=[] numbers={N:0,M:0,I:0,K9:0,COUNT:0} strings={F:3132423131,B:32202c4120322c41412041424141412c42203120413241202c2c41,TEXTLONG:,LINE:,S1:}\n" ≡ true
unfolding agrees
v102 = refl

v103 : agrees "         PROGRAM P\n         NUMBER N\nDONE     TEXTLONG=S1,\"A\"\nL2       B  ACKSCAN  B[(S1),(READ$3),G] =\"A\"/X9\nL3       P RI  NT (61 )   F\nX9       BACKSCAN TEXT  LON  G[(A$N ) ,(F),  \"\"\",G  ]\n         ROUTINE R1\n         S1$2=F,G$0,\"AA\"\n   \n LOOP    TEX  TLONG=TEXTLONG$N,B$  N\nL1       IF(1>NUMBER(LINE$N))/LOOP\n         SCAN LINE[(B$3),(S1$0003),(B),\"BA\",(READ)]\n         ENDROUTINE\n         WRITE STRING(N)\n         N=(+N*N)\n         SCAN G$2[\"B,A B\",(LINE),(TEXTLONG)]=\"B1\",S1,STRING(N),A$N\n         END\n" "-AA-A,\n" "step 1: n=0 notes=0 split=- trials=0 in=0 out=0 state=running next=4 held=[] numbers={N:0} strings={TEXTLONG:41,S1:,B:,READ:,G:,F:,A:,LINE:}\nstep 2: n=0 notes=0 split=- trials=1 in=0 out=0 state=running next=5 held=[] numbers={N:0} strings={TEXTLONG:41,S1:,B:,READ:,G:,F:,A:,LINE:}\nstep 3: n=0 notes=0 split=- trials=0 in=0 out=0 state=running next=6 held=[] numbers={N:0} strings={TEXTLONG:41,S1:,B:,READ:,G:,F:,A:,LINE:}\nstep 4: n=0 notes=0 split=- trials=3 in=0 out=0 state=running next=7 held=[] numbers={N:0} strings={TEXTLONG:41,S1:,B:,READ:,G:,F:,A:,LINE:}\nstep 5: n=0 notes=0 split=- trials=0 in=0 out=0 state=running next=14 held=[] numbers={N:0} strings={TEXTLONG:41,S1:,B:,READ:,G:,F:,A:,LINE:}\nstep 6: n=0 notes=0 split=- trials=0 in=0 out=2 state=running next=15 held=[] numbers={N:0} strings={TEXTLONG:41,S1:,B:,READ:,G:,F:,A:,LINE:}\nstep 7: n=0 notes=0 split=- trials=0 in=0 out=2 state=running next=16 held=[] numbers={N:0} strings={TEXTLONG:41,S1:,B:,READ:,G:,F:,A:,LINE:}\nstep 8: n=0 notes=0 split=- trials=1 in=0 out=2 state=running next=17 held=[] numbers={N:0} strings={TEXTLONG:,S1:,B:,READ:,G:,F:,A:,LINE:}\nstep 9: n=0 notes=0 split=- trials=0 in=0 out=2 state=finished next=17 held=[] numbers={N:0} strings={TEXTLONG:,S1:,B:,READ:,G:,F:,A:,LINE:}\n" ≡ true
unfolding agrees
v103 = refl

v104 : agrees "         PROGRAM TEST1\n         N UMBER  N  ,M,I ,K9\n         SCAN A$4[(B),C,(B$3),STRING(N),(C$M),(C$I),(B)]/,L2\n         BACKSCAN  A[  (C),(B) , A ]/L1, L3\n         ROUTINE R3\n         IF(I=NUMBER(A$5))/,X9\nX9       GOT  O X9\n        XN=NU  MBER(B  )*\n         (N*N)-I                                                        SEQ83305\n         C=B\n* COMMENT 2\n         ENDROUTINE\nL3       ROUTINE R2\nDONE     SCAN C[STRING(-0,N),(A),(B)]=\"AAA\",B\n         M=-1+I\n        1PRINT STRING(K9),C,\n         STRING(I)                                                      SEQ65959\n         END RO UTINE \nL2       IF(NUMERIC(B))/L1\n         PRINT S  TRING(  -1,I),\"A 22,,2AA2,B\"\nL1       ROUTINE R1                                                     SEQ65745\n         SCAN B[STRING(0,M),B]/,LOOP\nLOOP     BACKSCAN B[]  /  LOOP,L  OOP\n         ENDROUTINE\n         END\n" "" "step 1: n=0 notes=0 split=- trials=2 in=0 out=0 state=running next=19 held=[] numbers={N:0,M:0,I:0,K9:0} strings={A:,B:,C:}\nstep 2: n=0 notes=0 split=- trials=0 in=0 out=0 state=running next=20 held=[] numbers={N:0,M:0,I:0,K9:0} strings={A:,B:,C:}\nstep 3: n=0 notes=0 split=- trials=0 in=0 out=14 state=running next=21 held=[] numbers={N:0,M:0,I:0,K9:0} strings={A:,B:,C:}\nstep 4: n=0 notes=0 split=- trials=0 in=0 out=14 state=running next=25 held=[] numbers={N:0,M:0,I:0,K9:0} strings={A:,B:,C:}\nstep 5: n=0 notes=0 split=- trials=0 in=0 out=14 state=finished next=25 held=[] numbers={N:0,M:0,I:0,K9:0} strings={A:,B:,C:}\n" ≡ true
unfolding agrees
v104 = refl

v105 : agrees "         PROGRAM TEST1\n         NUMBER N                                                       SEQ15674\n L1      ROUTINE R1\nX9       ENDROUTINE\n L2      IF(NULL(A))/,L1\n         A=B$0,A,\"2 , A\",\"AB\"                                           SEQ26250\n         ROUTINE R2\nL3       GO TO L3\n                                                                        SEQ\nLOOP     WRITE \"122BAB1A,A A\",STRING(N)\n         ENDROUTINE\nDONE     END\n" "-1,\n\n\n102A0 \n" "step 1: n=0 notes=0 split=- trials=0 in=0 out=0 state=running next=5 held=[] numbers={N:0} strings={A:,B:}\nstep 2: n=0 notes=0 split=- trials=0 in=0 out=0 state=running next=6 held=[] numbers={N:0} strings={A:,B:}\nstep 3: n=0 notes=0 split=- trials=0 in=0 out=0 state=running next=7 held=[] numbers={N:0} strings={A:32202c20414142,B:}\nstep 4: n=0 notes=0 split=- trials=0 in=0 out=0 state=running next=12 held=[] numbers={N:0} strings={A:32202c20414142,B:}\nstep 5: n=0 notes=0 split=- trials=0 in=0 out=0 state=finished next=12 held=[] numbers={N:0} strings={A:32202c20414142,B:}\n" ≡ true
unfolding agrees
v105 = refl

v106 : agrees "         PROGRAM LOTS\nSTART    N UMB ER  N,M,I,K  9,C  OUNT\n         IF(NULL(B))/L3,LOOP\n X9      PRINT(61) STRING(M),LINE\n         EX  ECUTE  R2\nL1       M=(M)/1761\n         B  = STR  ING(N)\n         WRITE \"1\"\n         COUN T=3-15997 28+L ENGT H(B)+  LENGTH (B )*NU MBE R(C$N) \n         F=\"-\",\"+(\"\n         ROUTINE R2\n         READ(60) TEXTLONG/DONE\nDONE     LINE $C  O  UNT=\n   \n         F=TEXTLONG,STRING(0,M)\n        +PRINT STRING(\n         K9),\"1 1\"\n         ENDROUTINE\n         TE XTLONG $2= \n         IF(K9 =K9)/,LOO P\n         WRITE(61) F$6                                                  SEQ57634\n LOOP    RO UT  INE R1\nL2       IF(NUMBER(B)<=K9)/L2\n        *ENDROU\n         TINE\n        *READ (60) F/\n          ,L3\nL3       S1 =\n         END\n" "B2+0+AA+2--2\n\n" "step 1: n=0 notes=0 split=- trials=0 in=0 out=0 state=running next=28 held=[] numbers={N:0,M:0,I:0,K9:0,COUNT:0} strings={B:,LINE:,C:,F:,TEXTLONG:,S1:}\nstep 2: n=0 notes=0 split=- trials=0 in=0 out=0 state=running next=29 held=[] numbers={N:0,M:0,I:0,K9:0,COUNT:0} strings={B:,LINE:,C:,F:,TEXTLONG:,S1:}\nstep 3: n=0 notes=0 split=- trials=0 in=0 out=0 state=finished next=29 held=[] numbers={N:0,M:0,I:0,K9:0,COUNT:0} strings={B:,LINE:,C:,F:,TEXTLONG:,S1:}\n" ≡ true
unfolding agrees
v106 = refl

v107 : agrees "         PROGRAM LOTS\n         NUMBER N,M,I\n         S CAN A$ N[(  B ),(C$3)]=C/,L1\nL2       ROUTINE R3\nX9       A$6=\",B22AAA21ABB\"\n* COMMENT 4\n         C=\n         READ A$I\n* COMMENT 9\n         ENDROUTINE\n L3      ROU  TINE R1  \n         IF(0006<NUMBER(B))/LOOP,LOOP\nLOOP     SCAN C[STRING(-2,I)]=A\n         PRINT STRING(N)\n\n         ENDROUTINE\n         ROUTINE R2\n* COMMENT 6\nDONE     BACKSCAN C[(A$0),B,STRING(0,N),(A),\"\"\"]=\n         A=STRING(N,N)\n         GOTO DONE\n* COMMENT 0\n         ENDROUTINE\n         SCAN B[(A$1)]=C$N/L3\nL1       END" "" "step 1: n=0 notes=0 split=- trials=1 in=0 out=0 state=running next=25 held=[] numbers={N:0,M:0,I:0} strings={A:,B:,C:}\nstep 2: n=0 notes=0 split=- trials=0 in=0 out=0 state=finished next=25 held=[] numbers={N:0,M:0,I:0} strings={A:,B:,C:}\n" ≡ true
unfolding agrees
v107 = refl

v108 : agrees "         PROGRAM LOTS\n         NU MBE  R N,M\n         A=B$1\n* COMMENT 7\n L2      B=\"21AAB1A2AA1A\",STRING(  0,N),B  \n         I F(LENGTH(A)=2)/X9,L3\n* COMMENT 2\n         READ(60) A$2/L2\n         READ  B\n         ROUTINE R2\n         BACKSCAN B$M[(A$M),(A$N)]=B,A$0,\"2,A A1B22B 1\"/DONE\nDONE     M=+N-N\n         A$M=A$3,\"2 \"\n LOOP    GO TO LOOP\n         ENDROUTINE\n X9      ROUTI NE   R1                                                  SEQ73261\n         READ(60) A/,L1\n* COMMENT 1\n         M=LENGTH(B)*N\n         B=\"A\",STRING(N),B$N,STRING(M)\nL1       SCAN B$8[(A),\"2A2,,\",(A),(A),(A$2)]/L1\n         ENDRO UT  IN E\nL3       A=B\n         READ(60) A/,L2\n        1SCAN B$6[\"2\",B$1,(A$N),\"BA\",(A),STRING(M),(A$1)]=STRING(M),\"-\"/\n         L3,L2\n         EN  D  \n" "-2,\n-00+AABB122,-AA2+,A 01 ,BAB 1+B0 -0 0 A+\n0 +,-ABA-,-2\nA-A+-B+,B,1A2A0+-B + A0 ,A, 0A,1,B1B0A2 \n,\nB 2\n B22,B\n\n" "step 1: n=0 notes=0 split=- trials=0 in=0 out=0 state=running next=5 held=[] numbers={N:0,M:0} strings={A:,B:}\nstep 2: n=0 notes=0 split=- trials=0 in=0 out=0 state=running next=6 held=[] numbers={N:0,M:0} strings={A:,B:32314141423141324141314130}\nstep 3: n=0 notes=0 split=- trials=0 in=0 out=0 state=running next=23 held=[] numbers={N:0,M:0} strings={A:,B:32314141423141324141314130}\nstep 4: n=0 notes=0 split=- trials=0 in=0 out=0 state=running next=24 held=[] numbers={N:0,M:0} strings={A:32314141423141324141314130,B:32314141423141324141314130}\nstep 5: n=0 notes=0 split=- trials=0 in=4 out=0 state=running next=25 held=[] numbers={N:0,M:0} strings={A:2d322c,B:32314141423141324141314130}\nstep 6: n=0 notes=0 split=- trials=8 in=4 out=0 state=running next=5 held=[] numbers={N:0,M:0} strings={A:,B:32314141423141324141314130}\nstep 7: n=0 notes=0 split=- trials=0 in=4 out=0 state=running next=6 held=[] numbers={N:0,M:0} strings={A:,B:3231414142314132414131413032314141423141324141314130}\nstep 8: n=0 notes=0 split=- trials=0 in=4 out=0 state=running next=23 held=[] numbers={N:0,M:0} strings={A:,B:3231414142314132414131413032314141423141324141314130}\nstep 9: n=0 notes=0 split=- trials=0 in=4 out=0 state=running next=24 held=[] numbers={N:0,M:0} strings={A:3231414142314132414131413032314141423141324141314130,B:3231414142314132414131413032314141423141324141314130}\nstep 10: n=0 notes=0 split=- trials=0 in=45 out=0 state=running next=25 held=[] numbers={N:0,M:0} strings={A:2d30302b414142423132322c2d4141322b2c41203031202c42414220312b4230202d30203020412b,B:3231414142314132414131413032314141423141324141314130}\nstep 11: n=0 notes=0 split=- trials=8 in=45 out=0 state=running next=5 held=[] numbers={N:0,M:0} strings={A:,B:3231414142314132414131413032314141423141324141314130}\nstep 12: n=0 notes=0 split=- trials=0 in=45 out=0 state=running next=6 held=[] numbers={N:0,M:0} strings={A:,B:323141414231413241413141303231414142314132414131413032314141423141324141314130}\nstep 13: n=0 notes=0 split=- trials=0 in=45 out=0 state=running next=23 held=[] numbers={N:0,M:0} strings={A:,B:323141414231413241413141303231414142314132414131413032314141423141324141314130}\nstep 14: n=0 notes=0 split=- trials=0 in=45 out=0 state=running next=24 held=[] numbers={N:0,M:0} strings={A:323141414231413241413141303231414142314132414131413032314141423141324141314130,B:323141414231413241413141303231414142314132414131413032314141423141324141314130}\nstep 15: n=0 notes=0 split=- trials=0 in=58 out=0 state=running next=25 held=[] numbers={N:0,M:0} strings={A:30202b2c2d4142412d2c2d32,B:323141414231413241413141303231414142314132414131413032314141423141324141314130}\nstep 16: n=0 notes=0 split=- trials=8 in=58 out=0 state=running next=5 held=[] numbers={N:0,M:0} strings={A:,B:323141414231413241413141303231414142314132414131413032314141423141324141314130}\nstep 17: n=0 notes=0 split=- trials=0 in=58 out=0 state=running next=6 held=[] numbers={N:0,M:0} strings={A:,B:32314141423141324141314130323141414231413241413141303231414142314132414131413032314141423141324141314130}\nstep 18: n=0 notes=0 split=- trials=0 in=58 out=0 state=running next=23 held=[] numbers={N:0,M:0} strings={A:,B:32314141423141324141314130323141414231413241413141303231414142314132414131413032314141423141324141314130}\nstep 19: n=0 notes=0 split=- trials=0 in=58 out=0 state=running next=24 held=[] numbers={N:0,M:0} strings={A:32314141423141324141314130323141414231413241413141303231414142314132414131413032314141423141324141314130,B:32314141423141324141314130323141414231413241413141303231414142314132414131413032314141423141324141314130}\nstep 20: n=0 notes=0 split=- trials=0 in=99 out=0 state=running next=25 held=[] numbers={N:0,M:0} strings={A:412d412b2d422b2c422c31413241302b2d42202b204130202c412c2030412c312c42314230413220,B:32314141423141324141314130323141414231413241413141303231414142314132414131413032314141423141324141314130}\nstep 21: n=0 notes=0 split=- trials=8 in=99 out=0 state=running next=5 held=[] numbers={N:0,M:0} strings={A:,B:32314141423141324141314130323141414231413241413141303231414142314132414131413032314141423141324141314130}\nstep 22: n=0 notes=0 split=- trials=0 in=99 out=0 state=running next=6 held=[] numbers={N:0,M:0} strings={A:,B:3231414142314132414131413032314141423141324141314130323141414231413241413141303231414142314132414131413032314141423141324141314130}\nstep 23: n=0 notes=0 split=- trials=0 in=99 out=0 state=running next=23 held=[] numbers={N:0,M:0} strings={A:,B:3231414142314132414131413032314141423141324141314130323141414231413241413141303231414142314132414131413032314141423141324141314130}\nstep 24: n=0 notes=0 split=- trials=0 in=99 out=0 state=running next=24 held=[] numbers={N:0,M:0} strings={A:3231414142314132414131413032314141423141324141314130323141414231413241413141303231414142314132414131413032314141423141324141314130,B:3231414142314132414131413032314141423141324141314130323141414231413241413141303231414142314132414131413032314141423141324141314130}\nstep 25: n=0 notes=0 split=- trials=0 in=101 out=0 state=running next=25 held=[] numbers={N:0,M:0} strings={A:2c,B:3231414142314132414131413032314141423141324141314130323141414231413241413141303231414142314132414131413032314141423141324141314130}\nstep 26: n=0 notes=0 split=- trials=8 in=101 out=0 state=running next=5 held=[] numbers={N:0,M:0} strings={A:,B:3231414142314132414131413032314141423141324141314130323141414231413241413141303231414142314132414131413032314141423141324141314130}\nstep 27: n=0 notes=0 split=- trials=0 in=101 out=0 state=running next=6 held=[] numbers={N:0,M:0} strings={A:,B:323141414231413241413141303231414142314132414131413032314141423141324141314130323141414231413241413141303231414142314132414131413032314141423141324141314130}\nstep 28: n=0 notes=0 split=- trials=0 in=101 out=0 state=running next=23 held=[] numbers={N:0,M:0} strings={A:,B:323141414231413241413141303231414142314132414131413032314141423141324141314130323141414231413241413141303231414142314132414131413032314141423141324141314130}\nstep 29: n=0 notes=0 split=- trials=0 in=101 out=0 state=running next=24 held=[] numbers={N:0,M:0} strings={A:323141414231413241413141303231414142314132414131413032314141423141324141314130323141414231413241413141303231414142314132414131413032314141423141324141314130,B:323141414231413241413141303231414142314132414131413032314141423141324141314130323141414231413241413141303231414142314132414131413032314141423141324141314130}\nstep 30: n=0 notes=0 split=- trials=0 in=105 out=0 state=running next=25 held=[] numbers={N:0,M:0} strings={A:422032,B:323141414231413241413141303231414142314132414131413032314141423141324141314130323141414231413241413141303231414142314132414131413032314141423141324141314130}\nstep 31: n=0 notes=0 split=- trials=8 in=105 out=0 state=running next=5 held=[] numbers={N:0,M:0} strings={A:,B:323141414231413241413141303231414142314132414131413032314141423141324141314130323141414231413241413141303231414142314132414131413032314141423141324141314130}\nstep 32: n=0 notes=0 split=- trials=0 in=105 out=0 state=running next=6 held=[] numbers={N:0,M:0} strings={A:,B:32314141423141324141314130323141414231413241413141303231414142314132414131413032314141423141324141314130323141414231413241413141303231414142314132414131413032314141423141324141314130}\nstep 33: n=0 notes=0 split=- trials=0 in=105 out=0 state=running next=23 held=[] numbers={N:0,M:0} strings={A:,B:32314141423141324141314130323141414231413241413141303231414142314132414131413032314141423141324141314130323141414231413241413141303231414142314132414131413032314141423141324141314130}\nstep 34: n=0 notes=0 split=- trials=0 in=105 out=0 state=running next=24 held=[] numbers={N:0,M:0} strings={A:32314141423141324141314130323141414231413241413141303231414142314132414131413032314141423141324141314130323141414231413241413141303231414142314132414131413032314141423141324141314130,B:32314141423141324141314130323141414231413241413141303231414142314132414131413032314141423141324141314130323141414231413241413141303231414142314132414131413032314141423141324141314130}\nstep 35: n=0 notes=0 split=- trials=0 in=112 out=0 state=running next=25 held=[] numbers={N:0,M:0} strings={A:204232322c42,B:32314141423141324141314130323141414231413241413141303231414142314132414131413032314141423141324141314130323141414231413241413141303231414142314132414131413032314141423141324141314130}\nstep 36: n=0 notes=0 split=- trials=8 in=112 out=0 state=running next=5 held=[] numbers={N:0,M:0} strings={A:,B:32314141423141324141314130323141414231413241413141303231414142314132414131413032314141423141324141314130323141414231413241413141303231414142314132414131413032314141423141324141314130}\nstep 37: n=0 notes=0 split=- trials=0 in=112 out=0 state=running next=6 held=[] numbers={N:0,M:0} strings={A:,B:3231414142314132414131413032314141423141324141314130323141414231413241413141303231414142314132414131413032314141423141324141314130323141414231413241413141303231414142314132414131413032314141423141324141314130}\nstep 38: n=0 notes=0 split=- trials=0 in=112 out=0 state=running next=23 held=[] numbers={N:0,M:0} strings={A:,B:3231414142314132414131413032314141423141324141314130323141414231413241413141303231414142314132414131413032314141423141324141314130323141414231413241413141303231414142314132414131413032314141423141324141314130}\nstep 39: n=0 notes=0 split=- trials=0 in=112 out=0 state=running next=24 held=[] numbers={N:0,M:0} strings={A:3231414142314132414131413032314141423141324141314130323141414231413241413141303231414142314132414131413032314141423141324141314130323141414231413241413141303231414142314132414131413032314141423141324141314130,B:3231414142314132414131413032314141423141324141314130323141414231413241413141303231414142314132414131413032314141423141324141314130323141414231413241413141303231414142314132414131413032314141423141324141314130}\nstep 40: n=0 notes=0 split=- trials=0 in=113 out=0 state=running next=25 held=[] numbers={N:0,M:0} strings={A:,B:3231414142314132414131413032314141423141324141314130323141414231413241413141303231414142314132414131413032314141423141324141314130323141414231413241413141303231414142314132414131413032314141423141324141314130}\nstep 41: n=0 notes=0 split=- trials=8 in=113 out=0 state=running next=5 held=[] numbers={N:0,M:0} strings={A:,B:3231414142314132414131413032314141423141324141314130323141414231413241413141303231414142314132414131413032314141423141324141314130323141414231413241413141303231414142314132414131413032314141423141324141314130}\nstep 42: n=0 notes=0 split=- trials=0 in=113 out=0 state=running next=6 held=[] numbers={N:0,M:0} strings={A:,B:323141414231413241413141303231414142314132414131413032314141423141324141314130323141414231413241413141303231414142314132414131413032314141423141324141314130323141414231413241413141303231414142314132414131413032314141423141324141314130}\nstep 43: n=0 notes=0 split=- trials=0 in=113 out=0 state=running next=23 held=[] numbers={N:0,M:0} strings={A:,B:323141414231413241413141303231414142314132414131413032314141423141324141314130323141414231413241413141303231414142314132414131413032314141423141324141314130323141414231413241413141303231414142314132414131413032314141423141324141314130}\nstep 44: n=0 notes=0 split=- trials=0 in=113 out=0 state=running next=24 held=[] numbers={N:0,M:0} strings={A:323141414231413241413141303231414142314132414131413032314141423141324141314130323141414231413241413141303231414142314132414131413032314141423141324141314130323141414231413241413141303231414142314132414131413032314141423141324141314130,B:323141414231413241413141303231414142314132414131413032314141423141324141314130323141414231413241413141303231414142314132414131413032314141423141324141314130323141414231413241413141303231414142314132414131413032314141423141324141314130}\nstep 45: n=0 notes=0 split=- trials=0 in=113 out=0 state=running next=5 held=[] numbers={N:0,M:0} strings={A:323141414231413241413141303231414142314132414131413032314141423141324141314130323141414231413241413141303231414142314132414131413032314141423141324141314130323141414231413241413141303231414142314132414131413032314141423141324141314130,B:323141414231413241413141303231414142314132414131413032314141423141324141314130323141414231413241413141303231414142314132414131413032314141423141324141314130323141414231413241413141303231414142314132414131413032314141423141324141314130}\nstep 46: n=0 notes=0 split=- trials=0 in=113 out=0 state=running next=6 held=[] numbers={N:0,M:0} strings={A:323141414231413241413141303231414142314132414131413032314141423141324141314130323141414231413241413141303231414142314132414131413032314141423141324141314130323141414231413241413141303231414142314132414131413032314141423141324141314130,B:32314141423141324141314130323141414231413241413141303231414142314132414131413032314141423141324141314130323141414231413241413141303231414142314132414131413032314141423141324141314130323141414231413241413141303231414142314132414131413032314141423141324141314130}\nstep 47: n=0 notes=0 split=- trials=0 in=113 out=0 state=running next=23 held=[] numbers={N:0,M:0} strings={A:323141414231413241413141303231414142314132414131413032314141423141324141314130323141414231413241413141303231414142314132414131413032314141423141324141314130323141414231413241413141303231414142314132414131413032314141423141324141314130,B:32314141423141324141314130323141414231413241413141303231414142314132414131413032314141423141324141314130323141414231413241413141303231414142314132414131413032314141423141324141314130323141414231413241413141303231414142314132414131413032314141423141324141314130}\nstep 48: n=0 notes=0 split=- trials=0 in=113 out=0 state=running next=24 held=[] numbers={N:0,M:0} strings={A:32314141423141324141314130323141414231413241413141303231414142314132414131413032314141423141324141314130323141414231413241413141303231414142314132414131413032314141423141324141314130323141414231413241413141303231414142314132414131413032314141423141324141314130,B:32314141423141324141314130323141414231413241413141303231414142314132414131413032314141423141324141314130323141414231413241413141303231414142314132414131413032314141423141324141314130323141414231413241413141303231414142314132414131413032314141423141324141314130}\nstep 49: n=0 notes=0 split=- trials=0 in=113 out=0 state=running next=5 held=[] numbers={N:0,M:0} strings={A:32314141423141324141314130323141414231413241413141303231414142314132414131413032314141423141324141314130323141414231413241413141303231414142314132414131413032314141423141324141314130323141414231413241413141303231414142314132414131413032314141423141324141314130,B:32314141423141324141314130323141414231413241413141303231414142314132414131413032314141423141324141314130323141414231413241413141303231414142314132414131413032314141423141324141314130323141414231413241413141303231414142314132414131413032314141423141324141314130}\nstep 50: n=0 notes=0 split=- trials=0 in=113 out=0 state=running next=6 held=[] numbers={N:0,M:0} strings={A:32314141423141324141314130323141414231413241413141303231414142314132414131413032314141423141324141314130323141414231413241413141303231414142314132414131413032314141423141324141314130323141414231413241413141303231414142314132414131413032314141423141324141314130,B:3231414142314132414131413032314141423141324141314130323141414231413241413141303231414142314132414131413032314141423141324141314130323141414231413241413141303231414142314132414131413032314141423141324141314130323141414231413241413141303231414142314132414131413032314141423141324141314130}\nstep 51: n=0 notes=0 split=- trials=0 in=113 out=0 state=running next=23 held=[] numbers={N:0,M:0} strings={A:32314141423141324141314130323141414231413241413141303231414142314132414131413032314141423141324141314130323141414231413241413141303231414142314132414131413032314141423141324141314130323141414231413241413141303231414142314132414131413032314141423141324141314130,B:3231414142314132414131413032314141423141324141314130323141414231413241413141303231414142314132414131413032314141423141324141314130323141414231413241413141303231414142314132414131413032314141423141324141314130323141414231413241413141303231414142314132414131413032314141423141324141314130}\nstep 52: n=0 notes=0 split=- trials=0 in=113 out=0 state=running next=24 held=[] numbers={N:0,M:0} strings={A:3231414142314132414131413032314141423141324141314130323141414231413241413141303231414142314132414131413032314141423141324141314130323141414231413241413141303231414142314132414131413032314141423141324141314130323141414231413241413141303231414142314132414131413032314141423141324141314130,B:3231414142314132414131413032314141423141324141314130323141414231413241413141303231414142314132414131413032314141423141324141314130323141414231413241413141303231414142314132414131413032314141423141324141314130323141414231413241413141303231414142314132414131413032314141423141324141314130}\nstep 53: n=0 notes=0 split=- trials=0 in=113 out=0 state=running next=5 held=[] numbers={N:0,M:0} strings={A:3231414142314132414131413032314141423141324141314130323141414231413241413141303231414142314132414131413032314141423141324141314130323141414231413241413141303231414142314132414131413032314141423141324141314130323141414231413241413141303231414142314132414131413032314141423141324141314130,B:3231414142314132414131413032314141423141324141314130323141414231413241413141303231414142314132414131413032314141423141324141314130323141414231413241413141303231414142314132414131413032314141423141324141314130323141414231413241413141303231414142314132414131413032314141423141324141314130}\nstep 54: n=0 notes=0 split=- trials=0 in=113 out=0 state=running next=6 held=[] numbers={N:0,M:0} strings={A:3231414142314132414131413032314141423141324141314130323141414231413241413141303231414142314132414131413032314141423141324141314130323141414231413241413141303231414142314132414131413032314141423141324141314130323141414231413241413141303231414142314132414131413032314141423141324141314130,B:323141414231413241413141303231414142314132414131413032314141423141324141314130323141414231413241413141303231414142314132414131413032314141423141324141314130323141414231413241413141303231414142314132414131413032314141423141324141314130323141414231413241413141303231414142314132414131413032314141423141324141314130}\nstep 55: n=0 notes=0 split=- trials=0 in=113 out=0 state=running next=23 held=[] numbers={N:0,M:0} strings={A:3231414142314132414131413032314141423141324141314130323141414231413241413141303231414142314132414131413032314141423141324141314130323141414231413241413141303231414142314132414131413032314141423141324141314130323141414231413241413141303231414142314132414131413032314141423141324141314130,B:323141414231413241413141303231414142314132414131413032314141423141324141314130323141414231413241413141303231414142314132414131413032314141423141324141314130323141414231413241413141303231414142314132414131413032314141423141324141314130323141414231413241413141303231414142314132414131413032314141423141324141314130}\nstep 56: n=0 notes=0 split=- trials=0 in=113 out=0 state=running next=24 held=[] numbers={N:0,M:0} strings={A:323141414231413241413141303231414142314132414131413032314141423141324141314130323141414231413241413141303231414142314132414131413032314141423141324141314130323141414231413241413141303231414142314132414131413032314141423141324141314130323141414231413241413141303231414142314132414131413032314141423141324141314130,B:323141414231413241413141303231414142314132414131413032314141423141324141314130323141414231413241413141303231414142314132414131413032314141423141324141314130323141414231413241413141303231414142314132414131413032314141423141324141314130323141414231413241413141303231414142314132414131413032314141423141324141314130}\nstep 57: n=0 notes=0 split=- trials=0 in=113 out=0 state=running next=5 held=[] numbers={N:0,M:0} strings={A:323141414231413241413141303231414142314132414131413032314141423141324141314130323141414231413241413141303231414142314132414131413032314141423141324141314130323141414231413241413141303231414142314132414131413032314141423141324141314130323141414231413241413141303231414142314132414131413032314141423141324141314130,B:323141414231413241413141303231414142314132414131413032314141423141324141314130323141414231413241413141303231414142314132414131413032314141423141324141314130323141414231413241413141303231414142314132414131413032314141423141324141314130323141414231413241413141303231414142314132414131413032314141423141324141314130}\nstep 58: n=0 notes=0 split=- trials=0 in=113 out=0 state=running next=6 held=[] numbers={N:0,M:0} strings={A:323141414231413241413141303231414142314132414131413032314141423141324141314130323141414231413241413141303231414142314132414131413032314141423141324141314130323141414231413241413141303231414142314132414131413032314141423141324141314130323141414231413241413141303231414142314132414131413032314141423141324141314130,B:32314141423141324141314130323141414231413241413141303231414142314132414131413032314141423141324141314130323141414231413241413141303231414142314132414131413032314141423141324141314130323141414231413241413141303231414142314132414131413032314141423141324141314130323141414231413241413141303231414142314132414131413032314141423141324141314130}\nstep 59: n=0 notes=0 split=- trials=0 in=113 out=0 state=running next=23 held=[] numbers={N:0,M:0} strings={A:323141414231413241413141303231414142314132414131413032314141423141324141314130323141414231413241413141303231414142314132414131413032314141423141324141314130323141414231413241413141303231414142314132414131413032314141423141324141314130323141414231413241413141303231414142314132414131413032314141423141324141314130,B:32314141423141324141314130323141414231413241413141303231414142314132414131413032314141423141324141314130323141414231413241413141303231414142314132414131413032314141423141324141314130323141414231413241413141303231414142314132414131413032314141423141324141314130323141414231413241413141303231414142314132414131413032314141423141324141314130}\nstep 60: n=0 notes=0 split=- trials=0 in=113 out=0 state=running next=24 held=[] numbers={N:0,M:0} strings={A:32314141423141324141314130323141414231413241413141303231414142314132414131413032314141423141324141314130323141414231413241413141303231414142314132414131413032314141423141324141314130323141414231413241413141303231414142314132414131413032314141423141324141314130323141414231413241413141303231414142314132414131413032314141423141324141314130,B:32314141423141324141314130323141414231413241413141303231414142314132414131413032314141423141324141314130323141414231413241413141303231414142314132414131413032314141423141324141314130323141414231413241413141303231414142314132414131413032314141423141324141314130323141414231413241413141303231414142314132414131413032314141423141324141314130}\n" ≡ true
unfolding agrees
v108 = refl
