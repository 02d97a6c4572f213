-- Decks with their inputs and traces. Assumes nothing.
use Rattle.std.specs.Prelude.{true, ◌≡◌, refl}
use Rattle.vectors.specs.Trace.{agrees, agrees_whole}

v129 : agrees "         PROGRAM TEST1\n         NUMBER N,M,I\n         A=\"A\",STRING(M),TEXTLONG,\"\"\"\n         L  INE $I= S TRING(0,I ),\"A1 \"\nL1       M=N\n         ROUTI  NE R2 \n         LINE$004= \"1\"\nX9       ENDROUTINE                                                     SEQ51874\n* COMMENT 2\n         SCAN LINE[(B$002)]\n         PRINT(61) \"\"\",\" \"\n         ROUTINE R3\n         C=F\n         SCAN S1[(A),(TEXTLONG),(TEXTLONG)]=\"0\",STRING(N,N),\",\"\nL3      XN=+NUMBER (T  EXTLONG$I)- (-I*LENGTH(B) *  NU  MBER(S 1)  *( +(\n         N+N-N*I/M)+N-LENGTH(G)-M)/NUMBER (G)*NUMBER(C)-4+  I  )\n         A$N=\n         ENDROUTINE\n DONE    ROUTINE R1\n* COMMENT 8\n         READ A/,LOOP\n        CS  C  AN  B$6[(F)\n        1]=S1$5,B,A  ,\"1,A\n         A,\"/L O OP\nLOOP     ENDROUTINE\nL2       C=\"B,,2A\",F$I\n         END\n" "\n,A 1BB,02121\n+A2\nBB1,21,-,BB," "step 1: n=0 notes=0 split=- trials=0 in=0 out=0 state=running next=4 held=[] numbers={N:0,M:0,I:0} strings={A:413022,TEXTLONG:,LINE:,B:,C:,F:,S1:,G:}\nstep 2: n=0 notes=0 split=- trials=0 in=0 out=0 state=running next=5 held=[] numbers={N:0,M:0,I:0} strings={A:413022,TEXTLONG:,LINE:30413120,B:,C:,F:,S1:,G:}\nstep 3: n=0 notes=0 split=- trials=0 in=0 out=0 state=running next=6 held=[] numbers={N:0,M:0,I:0} strings={A:413022,TEXTLONG:,LINE:30413120,B:,C:,F:,S1:,G:}\nstep 4: n=0 notes=0 split=- trials=0 in=0 out=0 state=running next=10 held=[] numbers={N:0,M:0,I:0} strings={A:413022,TEXTLONG:,LINE:30413120,B:,C:,F:,S1:,G:}\nstep 5: n=0 notes=0 split=0;2 trials=1 in=0 out=0 state=running next=11 held=[] numbers={N:0,M:0,I:0} strings={A:413022,TEXTLONG:,LINE:30413120,B:3041,C:,F:,S1:,G:}\nstep 6: n=0 notes=0 split=- trials=0 in=0 out=3 state=running next=12 held=[] numbers={N:0,M:0,I:0} strings={A:413022,TEXTLONG:,LINE:30413120,B:3041,C:,F:,S1:,G:}\nstep 7: n=0 notes=0 split=- trials=0 in=0 out=3 state=running next=19 held=[] numbers={N:0,M:0,I:0} strings={A:413022,TEXTLONG:,LINE:30413120,B:3041,C:,F:,S1:,G:}\nstep 8: n=0 notes=0 split=- trials=0 in=0 out=3 state=running next=26 held=[] numbers={N:0,M:0,I:0} strings={A:413022,TEXTLONG:,LINE:30413120,B:3041,C:,F:,S1:,G:}\nstep 9: n=0 notes=0 split=- trials=0 in=0 out=3 state=running next=27 held=[] numbers={N:0,M:0,I:0} strings={A:413022,TEXTLONG:,LINE:30413120,B:3041,C:422c2c3241,F:,S1:,G:}\nstep 10: n=0 notes=0 split=- trials=0 in=0 out=3 state=finished next=27 held=[] numbers={N:0,M:0,I:0} strings={A:413022,TEXTLONG:,LINE:30413120,B:3041,C:422c2c3241,F:,S1:,G:}\n" ≡ true
unfolding agrees
v129 = refl

v130 : agrees "         PROGRAM TEST1\n         NUMBER N,M,I,K9\n         R OUTINE   R3                                                  SEQ42988\n         BACKSCAN LINE[(C),(C),LINE]=B$1,\"A1A\",\"A, 11\"/DONE\n         RETURN\nDONE     PRINT(  61) \",,2\",\",AA1A\", \"B\"\n         SCAN A$6[STRING(K9),(C)]/DONE\n        +ENDROU\n         TINE\n\n         READ C\n         PRINT \"\"\",S1                                                   SEQ18334\n         S1=A,\"+\",S1,S1\n L2      BACKSCAN LINE[C,C]=LINE/,LOOP                                  SEQ15051\n* COMMENT 2\n         C=\"0\"\nX9       B=\" B ,1A11 A21\"\n         READ C$N/,LOOP\n         ROUTINE R2                                                     SEQ26740\n         BACKSCAN A$I[\"A,A1AA12A BA\",(B)]=LINE$1,STRING(I),LINE$4\n L3     XENDROUT\n         INE\n         RO  UTINE R1                                                   SEQ86026\n         N=K9\n         M=((M))\nL1       ENDROUTINE\n         SCAN S1[\"A\",B$5,S1$3]/LOOP,LOOP\nLOOP     END\n" "2 +\n 2-+ 200A2B2 B,0BA2A2BBA A0  , B+-AA-B+,\n" "step 1: n=0 notes=0 split=- trials=0 in=0 out=0 state=running next=11 held=[] numbers={N:0,M:0,I:0,K9:0} strings={LINE:,C:,B:,A:,S1:}\nstep 2: n=0 notes=0 split=- trials=0 in=4 out=0 state=running next=12 held=[] numbers={N:0,M:0,I:0,K9:0} strings={LINE:,C:32202b,B:,A:,S1:}\nstep 3: n=0 notes=0 split=- trials=0 in=4 out=2 state=running next=13 held=[] numbers={N:0,M:0,I:0,K9:0} strings={LINE:,C:32202b,B:,A:,S1:}\nstep 4: n=0 notes=0 split=- trials=0 in=4 out=2 state=running next=14 held=[] numbers={N:0,M:0,I:0,K9:0} strings={LINE:,C:32202b,B:,A:,S1:2b}\nstep 5: n=0 notes=0 split=- trials=1 in=4 out=2 state=running next=28 held=[] numbers={N:0,M:0,I:0,K9:0} strings={LINE:,C:32202b,B:,A:,S1:2b}\nstep 6: n=0 notes=0 split=- trials=0 in=4 out=2 state=finished next=28 held=[] numbers={N:0,M:0,I:0,K9:0} strings={LINE:,C:32202b,B:,A:,S1:2b}\n" ≡ true
unfolding agrees
v130 = refl

v131 : agrees "         PROGRAM TEST1\n         NUMBER ENDROUTINE\n L1      ENDROUTINE=( LENGTH ( TEX  TL  ONG))*6 \n         ENDROUTINE=ENDROUTINE*0+ENDROUTINE-LENGTH(B)/48*868995\n         LINE=C$ENDROUTINE\n         ROUTINE R2\n         IF(-7>-1)/L2,L2                                                SEQ60904\n         IF(+8>=LENGTH(F))/L2\nL2      1ENDROUT\nIGNORED  INE\n   \n         ROUTINE   R 1 \n         C$6=TEXTLONG$ENDROUTINE\nLOOP     IF(NULL(TEXTL  ONG))/,LOOP                                     SEQ26656\n         ENDROUTINE=LENGTH(TEXTLONG)\n         PRINT LINE,\"A\"\n         ENDR OUTI NE\n X9      S1$4=C,\" \"\nL3       SCAN S1[\" B  B1 2 ABA\",\"A\",(NULL)]=C/L3,L3                     SEQ98157\n         S1$ENDROUTI N  E=\"1BA\",B$ENDROUTINE\n         WRITE \"),\"\n         BACKSCAN LINE[(NULL)]=LINE,TEXTLONG,STRING(4,ENDROUTINE)/,DONE\n* COMMENT 7\n         IF(NU LL( NULL ))/X9\n DONE    BACK  SCAN  TEXTLONG[STRING(EN DROUTINE),(  NULL$ 1)]\n         END\n" "" "REFUSED 5 2\n" ≡ true
unfolding agrees
v131 = refl

v132 : agrees "         PROGRAM P\n         NUMBER N,M,I,K9,COUNT\n         BACKSCAN B$1[]=/L2,L2\n* COMMENT 2\nL2       COU NT =LENGTH(A)\n         RE  A D B/,L1\nL3       N=  3- COU  NT  \nLOOP     B=B,\"2A B, 222 AA\"\nL1       WRITE(61)\nX9       IF(NULL(B))/,LOOP\nDONE     END\n" "" "step 1: n=0 notes=0 split=0; trials=0 in=0 out=0 state=running next=5 held=[] numbers={N:0,M:0,I:0,K9:0,COUNT:0} strings={B:,A:}\nstep 2: n=0 notes=0 split=- trials=0 in=0 out=0 state=running next=6 held=[] numbers={N:0,M:0,I:0,K9:0,COUNT:0} strings={B:,A:}\nstep 3: n=0 notes=0 split=- trials=0 in=0 out=0 state=running next=9 held=[] numbers={N:0,M:0,I:0,K9:0,COUNT:0} strings={B:,A:}\nstep 4: n=0 notes=0 split=- trials=0 in=0 out=0 state=running next=10 held=[] numbers={N:0,M:0,I:0,K9:0,COUNT:0} strings={B:,A:}\nstep 5: n=0 notes=0 split=- trials=0 in=0 out=0 state=running next=11 held=[] numbers={N:0,M:0,I:0,K9:0,COUNT:0} strings={B:,A:}\nstep 6: n=0 notes=0 split=- trials=0 in=0 out=0 state=finished next=11 held=[] numbers={N:0,M:0,I:0,K9:0,COUNT:0} strings={B:,A:}\n" ≡ true
unfolding agrees
v132 = refl

v133 : agrees "         PR OGRAM LOTS                                                  SEQ92458\n         NUMBE R   N,M,I,K  9\n* COMMENT 2\n\n X9      S1$2=\"2B\",LINE,C,C\nL3       ROUTINE R2\n        XSCAN C$0[TEXTLONG,(S1$00)\n         ,A]=STRING(M)/,DONE\n         PRINT(61) A$N                                                  SEQ19923\n        CSCAN TEXTLONG$1[(A$3),(A$1),(LINE$1),F$M,(S1$3)]=C,\"AA1A2\"/,DON\n         E\n         SCAN B$4[(TEXTLONG$N)]/DONE\nDONE     ENDROUTINE\n LOOP    ROUTINE R1\n* COMMENT 0\nL1       C$I=F                                                          SEQ49563\n         ENDROUTINE\nL2       END\n" "A  -A2A2B1 B\n 1A1AAB,-A0A\nB- \n-1-\n" "step 1: n=0 notes=0 split=- trials=0 in=0 out=0 state=running next=6 held=[] numbers={N:0,M:0,I:0,K9:0} strings={S1:3242,LINE:,C:,TEXTLONG:,A:,F:,B:}\nstep 2: n=0 notes=0 split=- trials=0 in=0 out=0 state=running next=14 held=[] numbers={N:0,M:0,I:0,K9:0} strings={S1:3242,LINE:,C:,TEXTLONG:,A:,F:,B:}\nstep 3: n=0 notes=0 split=- trials=0 in=0 out=0 state=running next=18 held=[] numbers={N:0,M:0,I:0,K9:0} strings={S1:3242,LINE:,C:,TEXTLONG:,A:,F:,B:}\nstep 4: n=0 notes=0 split=- trials=0 in=0 out=0 state=finished next=18 held=[] numbers={N:0,M:0,I:0,K9:0} strings={S1:3242,LINE:,C:,TEXTLONG:,A:,F:,B:}\n" ≡ true
unfolding agrees
v133 = refl

v134 : agrees "         PR  OG RA M P\n         NUMBER N,M,I\nLOOP     B=                                                             SEQ26680\n X9      S1=B$4,C,C\nDONE     S1=A                                                           SEQ29359\n L3      LINE$5=STRING(N)\n L1      C=STRING(N),STRING(N)\nL2       END\n" "B ,-0-A010AB1+A-B1AB-A1A A-2-A+  ,12 112\n,-A 2A\n AA1,A2,1BAA\n\n0-1\n,\nB 0,1+20-12A\n11A1 AA0,AAB2---AA+02+0A01BAB, +1A0A,2B1" "step 1: n=0 notes=0 split=- trials=0 in=0 out=0 state=running next=4 held=[] numbers={N:0,M:0,I:0} strings={B:,S1:,C:,A:,LINE:}\nstep 2: n=0 notes=0 split=- trials=0 in=0 out=0 state=running next=5 held=[] numbers={N:0,M:0,I:0} strings={B:,S1:,C:,A:,LINE:}\nstep 3: n=0 notes=0 split=- trials=0 in=0 out=0 state=running next=6 held=[] numbers={N:0,M:0,I:0} strings={B:,S1:,C:,A:,LINE:}\nstep 4: n=0 notes=0 split=- trials=0 in=0 out=0 state=running next=7 held=[] numbers={N:0,M:0,I:0} strings={B:,S1:,C:,A:,LINE:30}\nstep 5: n=0 notes=0 split=- trials=0 in=0 out=0 state=running next=8 held=[] numbers={N:0,M:0,I:0} strings={B:,S1:,C:3030,A:,LINE:30}\nstep 6: n=0 notes=0 split=- trials=0 in=0 out=0 state=finished next=8 held=[] numbers={N:0,M:0,I:0} strings={B:,S1:,C:3030,A:,LINE:30}\n" ≡ true
unfolding agrees
v134 = refl

v135 : agrees "         PROGRAM P\n        *NUMBE  R \n         N,M\n         IF(NUMBER(A)<08)/X9,X9\n         WRITE(61) A$4\nX9       IF(N>=  LENGTH(B ))/X9\n         SCA  N   A[ ( B$2)  ,\"1-\"]/X9,X9 \n         A=B\n         PRINT \"\"\",STRING(N,N)\n         ROUTINE R3\n         RETURN                                                         SEQ02537\n LOOP    EN  DROUTINE\n         B=A\n         WRITE \n         M=2*3959                                                       SEQ71176\n         R  OUTINE R1\n L3      ENDROUTINE\n         READ B                                                         SEQ72192\n         B= STRING  ( 0,M), \")\"\n         ROUTIN E R2  \n L2      B=\"*\"\nL1       N=5-LENGTH(B)\n* COMMENT 7\nDONE     ENDROUTINE\n         EXECUTE R3\n         END\n" "" "step 1: n=0 notes=1 split=- trials=0 in=0 out=0 state=running next=6 held=[] numbers={N:0,M:0} strings={A:,B:}\nstep 2: n=0 notes=0 split=- trials=0 in=0 out=0 state=running next=6 held=[] numbers={N:0,M:0} strings={A:,B:}\nstep 3: n=0 notes=0 split=- trials=0 in=0 out=0 state=running next=6 held=[] numbers={N:0,M:0} strings={A:,B:}\nstep 4: n=0 notes=0 split=- trials=0 in=0 out=0 state=running next=6 held=[] numbers={N:0,M:0} strings={A:,B:}\nstep 5: n=0 notes=0 split=- trials=0 in=0 out=0 state=running next=6 held=[] numbers={N:0,M:0} strings={A:,B:}\nstep 6: n=0 notes=0 split=- trials=0 in=0 out=0 state=running next=6 held=[] numbers={N:0,M:0} strings={A:,B:}\nstep 7: n=0 notes=0 split=- trials=0 in=0 out=0 state=running next=6 held=[] numbers={N:0,M:0} strings={A:,B:}\nstep 8: n=0 notes=0 split=- trials=0 in=0 out=0 state=running next=6 held=[] numbers={N:0,M:0} strings={A:,B:}\nstep 9: n=0 notes=0 split=- trials=0 in=0 out=0 state=running next=6 held=[] numbers={N:0,M:0} strings={A:,B:}\nstep 10: n=0 notes=0 split=- trials=0 in=0 out=0 state=running next=6 held=[] numbers={N:0,M:0} strings={A:,B:}\nstep 11: n=0 notes=0 split=- trials=0 in=0 out=0 state=running next=6 held=[] numbers={N:0,M:0} strings={A:,B:}\nstep 12: n=0 notes=0 split=- trials=0 in=0 out=0 state=running next=6 held=[] numbers={N:0,M:0} strings={A:,B:}\nstep 13: n=0 notes=0 split=- trials=0 in=0 out=0 state=running next=6 held=[] numbers={N:0,M:0} strings={A:,B:}\nstep 14: n=0 notes=0 split=- trials=0 in=0 out=0 state=running next=6 held=[] numbers={N:0,M:0} strings={A:,B:}\nstep 15: n=0 notes=0 split=- trials=0 in=0 out=0 state=running next=6 held=[] numbers={N:0,M:0} strings={A:,B:}\nstep 16: n=0 notes=0 split=- trials=0 in=0 out=0 state=running next=6 held=[] numbers={N:0,M:0} strings={A:,B:}\nstep 17: n=0 notes=0 split=- trials=0 in=0 out=0 state=running next=6 held=[] numbers={N:0,M:0} strings={A:,B:}\nstep 18: n=0 notes=0 split=- trials=0 in=0 out=0 state=running next=6 held=[] numbers={N:0,M:0} strings={A:,B:}\nstep 19: n=0 notes=0 split=- trials=0 in=0 out=0 state=running next=6 held=[] numbers={N:0,M:0} strings={A:,B:}\nstep 20: n=0 notes=0 split=- trials=0 in=0 out=0 state=running next=6 held=[] numbers={N:0,M:0} strings={A:,B:}\nstep 21: n=0 notes=0 split=- trials=0 in=0 out=0 state=running next=6 held=[] numbers={N:0,M:0} strings={A:,B:}\nstep 22: n=0 notes=0 split=- trials=0 in=0 out=0 state=running next=6 held=[] numbers={N:0,M:0} strings={A:,B:}\nstep 23: n=0 notes=0 split=- trials=0 in=0 out=0 state=running next=6 held=[] numbers={N:0,M:0} strings={A:,B:}\nstep 24: n=0 notes=0 split=- trials=0 in=0 out=0 state=running next=6 held=[] numbers={N:0,M:0} strings={A:,B:}\nstep 25: n=0 notes=0 split=- trials=0 in=0 out=0 state=running next=6 held=[] numbers={N:0,M:0} strings={A:,B:}\nstep 26: n=0 notes=0 split=- trials=0 in=0 out=0 state=running next=6 held=[] numbers={N:0,M:0} strings={A:,B:}\nstep 27: n=0 notes=0 split=- trials=0 in=0 out=0 state=running next=6 held=[] numbers={N:0,M:0} strings={A:,B:}\nstep 28: n=0 notes=0 split=- trials=0 in=0 out=0 state=running next=6 held=[] numbers={N:0,M:0} strings={A:,B:}\nstep 29: n=0 notes=0 split=- trials=0 in=0 out=0 state=running next=6 held=[] numbers={N:0,M:0} strings={A:,B:}\nstep 30: n=0 notes=0 split=- trials=0 in=0 out=0 state=running next=6 held=[] numbers={N:0,M:0} strings={A:,B:}\nstep 31: n=0 notes=0 split=- trials=0 in=0 out=0 state=running next=6 held=[] numbers={N:0,M:0} strings={A:,B:}\nstep 32: n=0 notes=0 split=- trials=0 in=0 out=0 state=running next=6 held=[] numbers={N:0,M:0} strings={A:,B:}\nstep 33: n=0 notes=0 split=- trials=0 in=0 out=0 state=running next=6 held=[] numbers={N:0,M:0} strings={A:,B:}\nstep 34: n=0 notes=0 split=- trials=0 in=0 out=0 state=running next=6 held=[] numbers={N:0,M:0} strings={A:,B:}\nstep 35: n=0 notes=0 split=- trials=0 in=0 out=0 state=running next=6 held=[] numbers={N:0,M:0} strings={A:,B:}\nstep 36: n=0 notes=0 split=- trials=0 in=0 out=0 state=running next=6 held=[] numbers={N:0,M:0} strings={A:,B:}\nstep 37: n=0 notes=0 split=- trials=0 in=0 out=0 state=running next=6 held=[] numbers={N:0,M:0} strings={A:,B:}\nstep 38: n=0 notes=0 split=- trials=0 in=0 out=0 state=running next=6 held=[] numbers={N:0,M:0} strings={A:,B:}\nstep 39: n=0 notes=0 split=- trials=0 in=0 out=0 state=running next=6 held=[] numbers={N:0,M:0} strings={A:,B:}\nstep 40: n=0 notes=0 split=- trials=0 in=0 out=0 state=running next=6 held=[] numbers={N:0,M:0} strings={A:,B:}\nstep 41: n=0 notes=0 split=- trials=0 in=0 out=0 state=running next=6 held=[] numbers={N:0,M:0} strings={A:,B:}\nstep 42: n=0 notes=0 split=- trials=0 in=0 out=0 state=running next=6 held=[] numbers={N:0,M:0} strings={A:,B:}\nstep 43: n=0 notes=0 split=- trials=0 in=0 out=0 state=running next=6 held=[] numbers={N:0,M:0} strings={A:,B:}\nstep 44: n=0 notes=0 split=- trials=0 in=0 out=0 state=running next=6 held=[] numbers={N:0,M:0} strings={A:,B:}\nstep 45: n=0 notes=0 split=- trials=0 in=0 out=0 state=running next=6 held=[] numbers={N:0,M:0} strings={A:,B:}\nstep 46: n=0 notes=0 split=- trials=0 in=0 out=0 state=running next=6 held=[] numbers={N:0,M:0} strings={A:,B:}\nstep 47: n=0 notes=0 split=- trials=0 in=0 out=0 state=running next=6 held=[] numbers={N:0,M:0} strings={A:,B:}\nstep 48: n=0 notes=0 split=- trials=0 in=0 out=0 state=running next=6 held=[] numbers={N:0,M:0} strings={A:,B:}\nstep 49: n=0 notes=0 split=- trials=0 in=0 out=0 state=running next=6 held=[] numbers={N:0,M:0} strings={A:,B:}\nstep 50: n=0 notes=0 split=- trials=0 in=0 out=0 state=running next=6 held=[] numbers={N:0,M:0} strings={A:,B:}\nstep 51: n=0 notes=0 split=- trials=0 in=0 out=0 state=running next=6 held=[] numbers={N:0,M:0} strings={A:,B:}\nstep 52: n=0 notes=0 split=- trials=0 in=0 out=0 state=running next=6 held=[] numbers={N:0,M:0} strings={A:,B:}\nstep 53: n=0 notes=0 split=- trials=0 in=0 out=0 state=running next=6 held=[] numbers={N:0,M:0} strings={A:,B:}\nstep 54: n=0 notes=0 split=- trials=0 in=0 out=0 state=running next=6 held=[] numbers={N:0,M:0} strings={A:,B:}\nstep 55: n=0 notes=0 split=- trials=0 in=0 out=0 state=running next=6 held=[] numbers={N:0,M:0} strings={A:,B:}\nstep 56: n=0 notes=0 split=- trials=0 in=0 out=0 state=running next=6 held=[] numbers={N:0,M:0} strings={A:,B:}\nstep 57: n=0 notes=0 split=- trials=0 in=0 out=0 state=running next=6 held=[] numbers={N:0,M:0} strings={A:,B:}\nstep 58: n=0 notes=0 split=- trials=0 in=0 out=0 state=running next=6 held=[] numbers={N:0,M:0} strings={A:,B:}\nstep 59: n=0 notes=0 split=- trials=0 in=0 out=0 state=running next=6 held=[] numbers={N:0,M:0} strings={A:,B:}\nstep 60: n=0 notes=0 split=- trials=0 in=0 out=0 state=running next=6 held=[] numbers={N:0,M:0} strings={A:,B:}\n" ≡ true
unfolding agrees
v135 = refl

v136 : agrees "         PROGRAM P\n         NUMBER N,  M\n         PRINT   B\n         IF(9<>  0)/DONE,L1\n         A=                                                             SEQ65888\nL1       SCA N S1[\"2\"] /LOOP,L1 \n         R OUT  INE R1 \n                                                                        SEQ\n         SCAN S1[(A),(C$1)]=C                                           SEQ77345\nL2       ENDROUTINE\n DONE    READ(60) A\n         BACKSCAN C[\" B,B2A1A2AA,\",(B$0)]=\"=1\",C$M,\"-3(\"\n         IF(NU  MBER(A )<>0 00 6)/DONE,DONE\n* COMMENT 8\n         M=7\n LOOP    N=M*M\n        +SC  AN   C$2\n        +[(A  ) ,(S1)\nIGNORED 1,(A)]  =  S \n         1\nL3       SCAN C[C,\" \",S1]=A,C/,L1\n         PRINT STRING(3,M)\n         P  RI  NT \"1A 1 BBA,,,1\",\"2\",STRING(M)\nX9       END\n" "0\nAB+1+A -1,A+02 2--AB+-,+B0,,022++ +1110,\n1-BA,A10 ,01\n B0AAB22+1A2" "step 1: n=0 notes=0 split=- trials=0 in=0 out=0 state=running next=4 held=[] numbers={N:0,M:0} strings={B:,A:,S1:,C:}\nstep 2: n=0 notes=0 split=- trials=0 in=0 out=0 state=running next=11 held=[] numbers={N:0,M:0} strings={B:,A:,S1:,C:}\nstep 3: n=0 notes=0 split=- trials=0 in=2 out=0 state=running next=12 held=[] numbers={N:0,M:0} strings={B:,A:30,S1:,C:}\nstep 4: n=0 notes=0 split=- trials=1 in=2 out=0 state=running next=13 held=[] numbers={N:0,M:0} strings={B:,A:30,S1:,C:}\nstep 5: n=0 notes=0 split=- trials=0 in=2 out=0 state=running next=11 held=[] numbers={N:0,M:0} strings={B:,A:30,S1:,C:}\nstep 6: n=0 notes=0 split=- trials=0 in=43 out=0 state=running next=12 held=[] numbers={N:0,M:0} strings={B:,A:41422b312b41202d312c412b303220322d2d41422b2d2c2b42302c2c3032322b2b202b313131302c,S1:,C:}\nstep 7: n=0 notes=0 split=- trials=1 in=43 out=0 state=running next=13 held=[] numbers={N:0,M:0} strings={B:,A:41422b312b41202d312c412b303220322d2d41422b2d2c2b42302c2c3032322b2b202b313131302c,S1:,C:}\nstep 8: n=0 notes=1 split=- trials=0 in=43 out=0 state=running next=11 held=[] numbers={N:0,M:0} strings={B:,A:41422b312b41202d312c412b303220322d2d41422b2d2c2b42302c2c3032322b2b202b313131302c,S1:,C:}\nstep 9: n=0 notes=0 split=- trials=0 in=56 out=0 state=running next=12 held=[] numbers={N:0,M:0} strings={B:,A:312d42412c413130202c3031,S1:,C:}\nstep 10: n=0 notes=0 split=- trials=1 in=56 out=0 state=running next=13 held=[] numbers={N:0,M:0} strings={B:,A:312d42412c413130202c3031,S1:,C:}\nstep 11: n=0 notes=1 split=- trials=0 in=56 out=0 state=running next=11 held=[] numbers={N:0,M:0} strings={B:,A:312d42412c413130202c3031,S1:,C:}\nstep 12: n=0 notes=0 split=- trials=0 in=68 out=0 state=running next=12 held=[] numbers={N:0,M:0} strings={B:,A:20423041414232322b314132,S1:,C:}\nstep 13: n=0 notes=0 split=- trials=1 in=68 out=0 state=running next=13 held=[] numbers={N:0,M:0} strings={B:,A:20423041414232322b314132,S1:,C:}\nstep 14: n=0 notes=1 split=- trials=0 in=68 out=0 state=running next=11 held=[] numbers={N:0,M:0} strings={B:,A:20423041414232322b314132,S1:,C:}\nstep 15: n=0 notes=0 split=- trials=0 in=68 out=0 state=running next=12 held=[] numbers={N:0,M:0} strings={B:,A:20423041414232322b314132,S1:,C:}\nstep 16: n=0 notes=0 split=- trials=1 in=68 out=0 state=running next=13 held=[] numbers={N:0,M:0} strings={B:,A:20423041414232322b314132,S1:,C:}\nstep 17: n=0 notes=1 split=- trials=0 in=68 out=0 state=running next=11 held=[] numbers={N:0,M:0} strings={B:,A:20423041414232322b314132,S1:,C:}\nstep 18: n=0 notes=0 split=- trials=0 in=68 out=0 state=running next=12 held=[] numbers={N:0,M:0} strings={B:,A:20423041414232322b314132,S1:,C:}\nstep 19: n=0 notes=0 split=- trials=1 in=68 out=0 state=running next=13 held=[] numbers={N:0,M:0} strings={B:,A:20423041414232322b314132,S1:,C:}\nstep 20: n=0 notes=1 split=- trials=0 in=68 out=0 state=running next=11 held=[] numbers={N:0,M:0} strings={B:,A:20423041414232322b314132,S1:,C:}\nstep 21: n=0 notes=0 split=- trials=0 in=68 out=0 state=running next=12 held=[] numbers={N:0,M:0} strings={B:,A:20423041414232322b314132,S1:,C:}\nstep 22: n=0 notes=0 split=- trials=1 in=68 out=0 state=running next=13 held=[] numbers={N:0,M:0} strings={B:,A:20423041414232322b314132,S1:,C:}\nstep 23: n=0 notes=1 split=- trials=0 in=68 out=0 state=running next=11 held=[] numbers={N:0,M:0} strings={B:,A:20423041414232322b314132,S1:,C:}\nstep 24: n=0 notes=0 split=- trials=0 in=68 out=0 state=running next=12 held=[] numbers={N:0,M:0} strings={B:,A:20423041414232322b314132,S1:,C:}\nstep 25: n=0 notes=0 split=- trials=1 in=68 out=0 state=running next=13 held=[] numbers={N:0,M:0} strings={B:,A:20423041414232322b314132,S1:,C:}\nstep 26: n=0 notes=1 split=- trials=0 in=68 out=0 state=running next=11 held=[] numbers={N:0,M:0} strings={B:,A:20423041414232322b314132,S1:,C:}\nstep 27: n=0 notes=0 split=- trials=0 in=68 out=0 state=running next=12 held=[] numbers={N:0,M:0} strings={B:,A:20423041414232322b314132,S1:,C:}\nstep 28: n=0 notes=0 split=- trials=1 in=68 out=0 state=running next=13 held=[] numbers={N:0,M:0} strings={B:,A:20423041414232322b314132,S1:,C:}\nstep 29: n=0 notes=1 split=- trials=0 in=68 out=0 state=running next=11 held=[] numbers={N:0,M:0} strings={B:,A:20423041414232322b314132,S1:,C:}\nstep 30: n=0 notes=0 split=- trials=0 in=68 out=0 state=running next=12 held=[] numbers={N:0,M:0} strings={B:,A:20423041414232322b314132,S1:,C:}\nstep 31: n=0 notes=0 split=- trials=1 in=68 out=0 state=running next=13 held=[] numbers={N:0,M:0} strings={B:,A:20423041414232322b314132,S1:,C:}\nstep 32: n=0 notes=1 split=- trials=0 in=68 out=0 state=running next=11 held=[] numbers={N:0,M:0} strings={B:,A:20423041414232322b314132,S1:,C:}\nstep 33: n=0 notes=0 split=- trials=0 in=68 out=0 state=running next=12 held=[] numbers={N:0,M:0} strings={B:,A:20423041414232322b314132,S1:,C:}\nstep 34: n=0 notes=0 split=- trials=1 in=68 out=0 state=running next=13 held=[] numbers={N:0,M:0} strings={B:,A:20423041414232322b314132,S1:,C:}\nstep 35: n=0 notes=1 split=- trials=0 in=68 out=0 state=running next=11 held=[] numbers={N:0,M:0} strings={B:,A:20423041414232322b314132,S1:,C:}\nstep 36: n=0 notes=0 split=- trials=0 in=68 out=0 state=running next=12 held=[] numbers={N:0,M:0} strings={B:,A:20423041414232322b314132,S1:,C:}\nstep 37: n=0 notes=0 split=- trials=1 in=68 out=0 state=running next=13 held=[] numbers={N:0,M:0} strings={B:,A:20423041414232322b314132,S1:,C:}\nstep 38: n=0 notes=1 split=- trials=0 in=68 out=0 state=running next=11 held=[] numbers={N:0,M:0} strings={B:,A:20423041414232322b314132,S1:,C:}\nstep 39: n=0 notes=0 split=- trials=0 in=68 out=0 state=running next=12 held=[] numbers={N:0,M:0} strings={B:,A:20423041414232322b314132,S1:,C:}\nstep 40: n=0 notes=0 split=- trials=1 in=68 out=0 state=running next=13 held=[] numbers={N:0,M:0} strings={B:,A:20423041414232322b314132,S1:,C:}\nstep 41: n=0 notes=1 split=- trials=0 in=68 out=0 state=running next=11 held=[] numbers={N:0,M:0} strings={B:,A:20423041414232322b314132,S1:,C:}\nstep 42: n=0 notes=0 split=- trials=0 in=68 out=0 state=running next=12 held=[] numbers={N:0,M:0} strings={B:,A:20423041414232322b314132,S1:,C:}\nstep 43: n=0 notes=0 split=- trials=1 in=68 out=0 state=running next=13 held=[] numbers={N:0,M:0} strings={B:,A:20423041414232322b314132,S1:,C:}\nstep 44: n=0 notes=1 split=- trials=0 in=68 out=0 state=running next=11 held=[] numbers={N:0,M:0} strings={B:,A:20423041414232322b314132,S1:,C:}\nstep 45: n=0 notes=0 split=- trials=0 in=68 out=0 state=running next=12 held=[] numbers={N:0,M:0} strings={B:,A:20423041414232322b314132,S1:,C:}\nstep 46: n=0 notes=0 split=- trials=1 in=68 out=0 state=running next=13 held=[] numbers={N:0,M:0} strings={B:,A:20423041414232322b314132,S1:,C:}\nstep 47: n=0 notes=1 split=- trials=0 in=68 out=0 state=running next=11 held=[] numbers={N:0,M:0} strings={B:,A:20423041414232322b314132,S1:,C:}\nstep 48: n=0 notes=0 split=- trials=0 in=68 out=0 state=running next=12 held=[] numbers={N:0,M:0} strings={B:,A:20423041414232322b314132,S1:,C:}\nstep 49: n=0 notes=0 split=- trials=1 in=68 out=0 state=running next=13 held=[] numbers={N:0,M:0} strings={B:,A:20423041414232322b314132,S1:,C:}\nstep 50: n=0 notes=1 split=- trials=0 in=68 out=0 state=running next=11 held=[] numbers={N:0,M:0} strings={B:,A:20423041414232322b314132,S1:,C:}\nstep 51: n=0 notes=0 split=- trials=0 in=68 out=0 state=running next=12 held=[] numbers={N:0,M:0} strings={B:,A:20423041414232322b314132,S1:,C:}\nstep 52: n=0 notes=0 split=- trials=1 in=68 out=0 state=running next=13 held=[] numbers={N:0,M:0} strings={B:,A:20423041414232322b314132,S1:,C:}\nstep 53: n=0 notes=1 split=- trials=0 in=68 out=0 state=running next=11 held=[] numbers={N:0,M:0} strings={B:,A:20423041414232322b314132,S1:,C:}\nstep 54: n=0 notes=0 split=- trials=0 in=68 out=0 state=running next=12 held=[] numbers={N:0,M:0} strings={B:,A:20423041414232322b314132,S1:,C:}\nstep 55: n=0 notes=0 split=- trials=1 in=68 out=0 state=running next=13 held=[] numbers={N:0,M:0} strings={B:,A:20423041414232322b314132,S1:,C:}\nstep 56: n=0 notes=1 split=- trials=0 in=68 out=0 state=running next=11 held=[] numbers={N:0,M:0} strings={B:,A:20423041414232322b314132,S1:,C:}\nstep 57: n=0 notes=0 split=- trials=0 in=68 out=0 state=running next=12 held=[] numbers={N:0,M:0} strings={B:,A:20423041414232322b314132,S1:,C:}\nstep 58: n=0 notes=0 split=- trials=1 in=68 out=0 state=running next=13 held=[] numbers={N:0,M:0} strings={B:,A:20423041414232322b314132,S1:,C:}\nstep 59: n=0 notes=1 split=- trials=0 in=68 out=0 state=running next=11 held=[] numbers={N:0,M:0} strings={B:,A:20423041414232322b314132,S1:,C:}\nstep 60: n=0 notes=0 split=- trials=0 in=68 out=0 state=running next=12 held=[] numbers={N:0,M:0} strings={B:,A:20423041414232322b314132,S1:,C:}\n" ≡ true
unfolding agrees
v136 = refl

v137 : agrees "         PROGRAM TEST1\nSTART    NUM BER   N,M,I,K9,COUNT\nX9       C=  A,  STR  ING(0,K9),\")$\"\n         BACKSCAN B[\"3+=\",(C),STRING(-8,N)]/L2,L3\n         BACKSCAN C[(A),STRING(0,M),\"0\",(S1$0),(B$1),\" 1\",\"1A2\"]=C/X9\nLOOP     READ A\nL3       ROU  TINE  R2\n         READ(60) C$K9\n         RE  AD C$1/,DONE\n         IF(N<>8)/,DONE\nDONE     S1=\"AB\"\n         ENDR  OUTINE\n         S1$2=\" )\",\"BA\",B,C\n        +BACKSCAN A[\"A\",\" $ A\n        C2\"]=S1$M,B,C,STRING(\n         M,COUNT)/L3\nL2       S1=S1,B\n        1BACKSCAN C[]=C,\"\n         (*/0=\"\n         ROUTINE R1\nL1       ENDROUTINE\n         N=(-8236125)*0001/(3)\n         END" " 21AA1" "step 1: n=0 notes=0 split=- trials=0 in=0 out=0 state=running next=4 held=[] numbers={N:0,M:0,I:0,K9:0,COUNT:0} strings={C:302924,A:,B:,S1:}\nstep 2: n=0 notes=0 split=- trials=1 in=0 out=0 state=running next=7 held=[] numbers={N:0,M:0,I:0,K9:0,COUNT:0} strings={C:,A:,B:,S1:}\nstep 3: n=0 notes=0 split=- trials=0 in=0 out=0 state=running next=13 held=[] numbers={N:0,M:0,I:0,K9:0,COUNT:0} strings={C:,A:,B:,S1:}\nstep 4: n=0 notes=0 split=- trials=0 in=0 out=0 state=running next=14 held=[] numbers={N:0,M:0,I:0,K9:0,COUNT:0} strings={C:,A:,B:,S1:20294241}\nstep 5: n=0 notes=0 split=- trials=1 in=0 out=0 state=running next=17 held=[] numbers={N:0,M:0,I:0,K9:0,COUNT:0} strings={C:,A:,B:,S1:20294241}\nstep 6: n=0 notes=0 split=- trials=0 in=0 out=0 state=running next=18 held=[] numbers={N:0,M:0,I:0,K9:0,COUNT:0} strings={C:,A:,B:,S1:20294241}\nstep 7: n=0 notes=0 split=0; trials=0 in=0 out=0 state=running next=20 held=[] numbers={N:0,M:0,I:0,K9:0,COUNT:0} strings={C:3d302f2a28,A:,B:,S1:20294241}\nstep 8: n=0 notes=0 split=- trials=0 in=0 out=0 state=running next=22 held=[] numbers={N:0,M:0,I:0,K9:0,COUNT:0} strings={C:3d302f2a28,A:,B:,S1:20294241}\nstep 9: n=0 notes=0 split=- trials=0 in=0 out=0 state=running next=23 held=[] numbers={N:-2745375,M:0,I:0,K9:0,COUNT:0} strings={C:3d302f2a28,A:,B:,S1:20294241}\nstep 10: n=0 notes=0 split=- trials=0 in=0 out=0 state=finished next=23 held=[] numbers={N:-2745375,M:0,I:0,K9:0,COUNT:0} strings={C:3d302f2a28,A:,B:,S1:20294241}\n" ≡ true
unfolding agrees
v137 = refl

v138 : agrees "         PROGRA M  P\n         NUMBER N,M,I\n LOOP    READ(60) A$2/,LOOP\n         ROUTINE R1\n         SCAN B$M[S1,(A$M),  (A),(  S1$N),\"1 A,,\"]/L1\n L1      I=(47)+  (-M)                                                  SEQ11778\n         WRITE STRING(N)\nDONE     ENDROUTIN E\n L3      EXECUTE R1\nL2       SCAN A[(B)]                                                    SEQ11280\n        XIF(NUMBER(A)<=NUMBER(\n         S1$3))/,LOOP\n X9      SCAN S1[\"B\",\" \"]=S1,LINE$N\n* COMMENT 0\n         END\n" "2,0\nA2-,BA0, A2A\n" "step 1: n=0 notes=1 split=- trials=0 in=4 out=0 state=running next=4 held=[] numbers={N:0,M:0,I:0} strings={A:322c,B:,S1:,LINE:}\nstep 2: n=0 notes=0 split=- trials=0 in=4 out=0 state=running next=9 held=[] numbers={N:0,M:0,I:0} strings={A:322c,B:,S1:,LINE:}\nstep 3: n=0 notes=0 split=- trials=0 in=4 out=0 state=running next=5 held=[10] numbers={N:0,M:0,I:0} strings={A:322c,B:,S1:,LINE:}\nstep 4: n=0 notes=0 split=- trials=4 in=4 out=0 state=running next=6 held=[10] numbers={N:0,M:0,I:0} strings={A:,B:,S1:,LINE:}\nstep 5: n=0 notes=0 split=- trials=0 in=4 out=0 state=running next=7 held=[10] numbers={N:0,M:0,I:47} strings={A:,B:,S1:,LINE:}\nstep 6: n=0 notes=0 split=- trials=0 in=4 out=2 state=running next=8 held=[10] numbers={N:0,M:0,I:47} strings={A:,B:,S1:,LINE:}\nstep 7: n=0 notes=0 split=- trials=0 in=4 out=2 state=running next=10 held=[] numbers={N:0,M:0,I:47} strings={A:,B:,S1:,LINE:}\nstep 8: n=0 notes=0 split=0;0 trials=0 in=4 out=2 state=running next=11 held=[] numbers={N:0,M:0,I:47} strings={A:,B:,S1:,LINE:}\nstep 9: n=0 notes=2 split=- trials=0 in=4 out=2 state=running next=13 held=[] numbers={N:0,M:0,I:47} strings={A:,B:,S1:,LINE:}\nstep 10: n=0 notes=0 split=- trials=1 in=4 out=2 state=running next=15 held=[] numbers={N:0,M:0,I:47} strings={A:,B:,S1:,LINE:}\nstep 11: n=0 notes=0 split=- trials=0 in=4 out=2 state=finished next=15 held=[] numbers={N:0,M:0,I:47} strings={A:,B:,S1:,LINE:}\n" ≡ true
unfolding agrees
v138 = refl

v139 : agrees "         PROGRA M   LOTS\n         NUMBER N,M,I,K9,COUNT\n         S  1 $ M =\" BA\",A$1 ,\"A2,A1\"\nLOOP     K9=794 1  447                                                  SEQ51256\n         PRINT C\n* COMMENT 9\n         SCAN A$5[(LINE$1)]=/LOOP\n         I  F(NULL  (A)  )/LOOP ,L  OOP\n         BACKSCAN S1[B,(A),(A$0),(A$I)]\n         R  OUTINE R3\n         BACKSCAN S1[\" \",(LINE),C,C]=/DONE,DONE                         SEQ79390\n DONE    S1$COUNT=STRING(I),S1\n         ENDROUTINE                                                     SEQ64771\n         ROUTINE R2\n         REA  D C\n         SCA  N S  1[STRI NG( 0  ,  I) ]/ L2,L1\nL1       EXIT\nL2       ENDR  OUTINE\n         READ LINE$6/LOOP\n         BACKSCAN LINE[S1$2]\n         ROUTIN  E R1\n        +C=\" B,\",STRI  NG(\n         9,K9)\nL3       I=L  ENGTH (A)  / M\nX9       EN DROUTIN  E\n         K9=NUMBER(S1)+(+I)\n         LINE$5=S1\n         EXECUTE R1                                                     SEQ38429\n         END\n" "" "step 1: n=0 notes=0 split=- trials=0 in=0 out=0 state=running next=4 held=[] numbers={N:0,M:0,I:0,K9:0,COUNT:0} strings={S1:20424141322c4131,A:,C:,LINE:,B:}\nstep 2: n=0 notes=0 split=- trials=0 in=0 out=0 state=running next=5 held=[] numbers={N:0,M:0,I:0,K9:7941447,COUNT:0} strings={S1:20424141322c4131,A:,C:,LINE:,B:}\nstep 3: n=0 notes=0 split=- trials=0 in=0 out=0 state=running next=7 held=[] numbers={N:0,M:0,I:0,K9:7941447,COUNT:0} strings={S1:20424141322c4131,A:,C:,LINE:,B:}\nstep 4: n=0 notes=0 split=- trials=1 in=0 out=0 state=running next=8 held=[] numbers={N:0,M:0,I:0,K9:7941447,COUNT:0} strings={S1:20424141322c4131,A:,C:,LINE:,B:}\nstep 5: n=0 notes=0 split=- trials=0 in=0 out=0 state=running next=4 held=[] numbers={N:0,M:0,I:0,K9:7941447,COUNT:0} strings={S1:20424141322c4131,A:,C:,LINE:,B:}\nstep 6: n=0 notes=0 split=- trials=0 in=0 out=0 state=running next=5 held=[] numbers={N:0,M:0,I:0,K9:7941447,COUNT:0} strings={S1:20424141322c4131,A:,C:,LINE:,B:}\nstep 7: n=0 notes=0 split=- trials=0 in=0 out=0 state=running next=7 held=[] numbers={N:0,M:0,I:0,K9:7941447,COUNT:0} strings={S1:20424141322c4131,A:,C:,LINE:,B:}\nstep 8: n=0 notes=0 split=- trials=1 in=0 out=0 state=running next=8 held=[] numbers={N:0,M:0,I:0,K9:7941447,COUNT:0} strings={S1:20424141322c4131,A:,C:,LINE:,B:}\nstep 9: n=0 notes=0 split=- trials=0 in=0 out=0 state=running next=4 held=[] numbers={N:0,M:0,I:0,K9:7941447,COUNT:0} strings={S1:20424141322c4131,A:,C:,LINE:,B:}\nstep 10: n=0 notes=0 split=- trials=0 in=0 out=0 state=running next=5 held=[] numbers={N:0,M:0,I:0,K9:7941447,COUNT:0} strings={S1:20424141322c4131,A:,C:,LINE:,B:}\nstep 11: n=0 notes=0 split=- trials=0 in=0 out=0 state=running next=7 held=[] numbers={N:0,M:0,I:0,K9:7941447,COUNT:0} strings={S1:20424141322c4131,A:,C:,LINE:,B:}\nstep 12: n=0 notes=0 split=- trials=1 in=0 out=0 state=running next=8 held=[] numbers={N:0,M:0,I:0,K9:7941447,COUNT:0} strings={S1:20424141322c4131,A:,C:,LINE:,B:}\nstep 13: n=0 notes=0 split=- trials=0 in=0 out=0 state=running next=4 held=[] numbers={N:0,M:0,I:0,K9:7941447,COUNT:0} strings={S1:20424141322c4131,A:,C:,LINE:,B:}\nstep 14: n=0 notes=0 split=- trials=0 in=0 out=0 state=running next=5 held=[] numbers={N:0,M:0,I:0,K9:7941447,COUNT:0} strings={S1:20424141322c4131,A:,C:,LINE:,B:}\nstep 15: n=0 notes=0 split=- trials=0 in=0 out=0 state=running next=7 held=[] numbers={N:0,M:0,I:0,K9:7941447,COUNT:0} strings={S1:20424141322c4131,A:,C:,LINE:,B:}\nstep 16: n=0 notes=0 split=- trials=1 in=0 out=0 state=running next=8 held=[] numbers={N:0,M:0,I:0,K9:7941447,COUNT:0} strings={S1:20424141322c4131,A:,C:,LINE:,B:}\nstep 17: n=0 notes=0 split=- trials=0 in=0 out=0 state=running next=4 held=[] numbers={N:0,M:0,I:0,K9:7941447,COUNT:0} strings={S1:20424141322c4131,A:,C:,LINE:,B:}\nstep 18: n=0 notes=0 split=- trials=0 in=0 out=0 state=running next=5 held=[] numbers={N:0,M:0,I:0,K9:7941447,COUNT:0} strings={S1:20424141322c4131,A:,C:,LINE:,B:}\nstep 19: n=0 notes=0 split=- trials=0 in=0 out=0 state=running next=7 held=[] numbers={N:0,M:0,I:0,K9:7941447,COUNT:0} strings={S1:20424141322c4131,A:,C:,LINE:,B:}\nstep 20: n=0 notes=0 split=- trials=1 in=0 out=0 state=running next=8 held=[] numbers={N:0,M:0,I:0,K9:7941447,COUNT:0} strings={S1:20424141322c4131,A:,C:,LINE:,B:}\nstep 21: n=0 notes=0 split=- trials=0 in=0 out=0 state=running next=4 held=[] numbers={N:0,M:0,I:0,K9:7941447,COUNT:0} strings={S1:20424141322c4131,A:,C:,LINE:,B:}\nstep 22: n=0 notes=0 split=- trials=0 in=0 out=0 state=running next=5 held=[] numbers={N:0,M:0,I:0,K9:7941447,COUNT:0} strings={S1:20424141322c4131,A:,C:,LINE:,B:}\nstep 23: n=0 notes=0 split=- trials=0 in=0 out=0 state=running next=7 held=[] numbers={N:0,M:0,I:0,K9:7941447,COUNT:0} strings={S1:20424141322c4131,A:,C:,LINE:,B:}\nstep 24: n=0 notes=0 split=- trials=1 in=0 out=0 state=running next=8 held=[] numbers={N:0,M:0,I:0,K9:7941447,COUNT:0} strings={S1:20424141322c4131,A:,C:,LINE:,B:}\nstep 25: n=0 notes=0 split=- trials=0 in=0 out=0 state=running next=4 held=[] numbers={N:0,M:0,I:0,K9:7941447,COUNT:0} strings={S1:20424141322c4131,A:,C:,LINE:,B:}\nstep 26: n=0 notes=0 split=- trials=0 in=0 out=0 state=running next=5 held=[] numbers={N:0,M:0,I:0,K9:7941447,COUNT:0} strings={S1:20424141322c4131,A:,C:,LINE:,B:}\nstep 27: n=0 notes=0 split=- trials=0 in=0 out=0 state=running next=7 held=[] numbers={N:0,M:0,I:0,K9:7941447,COUNT:0} strings={S1:20424141322c4131,A:,C:,LINE:,B:}\nstep 28: n=0 notes=0 split=- trials=1 in=0 out=0 state=running next=8 held=[] numbers={N:0,M:0,I:0,K9:7941447,COUNT:0} strings={S1:20424141322c4131,A:,C:,LINE:,B:}\nstep 29: n=0 notes=0 split=- trials=0 in=0 out=0 state=running next=4 held=[] numbers={N:0,M:0,I:0,K9:7941447,COUNT:0} strings={S1:20424141322c4131,A:,C:,LINE:,B:}\nstep 30: n=0 notes=0 split=- trials=0 in=0 out=0 state=running next=5 held=[] numbers={N:0,M:0,I:0,K9:7941447,COUNT:0} strings={S1:20424141322c4131,A:,C:,LINE:,B:}\nstep 31: n=0 notes=0 split=- trials=0 in=0 out=0 state=running next=7 held=[] numbers={N:0,M:0,I:0,K9:7941447,COUNT:0} strings={S1:20424141322c4131,A:,C:,LINE:,B:}\nstep 32: n=0 notes=0 split=- trials=1 in=0 out=0 state=running next=8 held=[] numbers={N:0,M:0,I:0,K9:7941447,COUNT:0} strings={S1:20424141322c4131,A:,C:,LINE:,B:}\nstep 33: n=0 notes=0 split=- trials=0 in=0 out=0 state=running next=4 held=[] numbers={N:0,M:0,I:0,K9:7941447,COUNT:0} strings={S1:20424141322c4131,A:,C:,LINE:,B:}\nstep 34: n=0 notes=0 split=- trials=0 in=0 out=0 state=running next=5 held=[] numbers={N:0,M:0,I:0,K9:7941447,COUNT:0} strings={S1:20424141322c4131,A:,C:,LINE:,B:}\nstep 35: n=0 notes=0 split=- trials=0 in=0 out=0 state=running next=7 held=[] numbers={N:0,M:0,I:0,K9:7941447,COUNT:0} strings={S1:20424141322c4131,A:,C:,LINE:,B:}\nstep 36: n=0 notes=0 split=- trials=1 in=0 out=0 state=running next=8 held=[] numbers={N:0,M:0,I:0,K9:7941447,COUNT:0} strings={S1:20424141322c4131,A:,C:,LINE:,B:}\nstep 37: n=0 notes=0 split=- trials=0 in=0 out=0 state=running next=4 held=[] numbers={N:0,M:0,I:0,K9:7941447,COUNT:0} strings={S1:20424141322c4131,A:,C:,LINE:,B:}\nstep 38: n=0 notes=0 split=- trials=0 in=0 out=0 state=running next=5 held=[] numbers={N:0,M:0,I:0,K9:7941447,COUNT:0} strings={S1:20424141322c4131,A:,C:,LINE:,B:}\nstep 39: n=0 notes=0 split=- trials=0 in=0 out=0 state=running next=7 held=[] numbers={N:0,M:0,I:0,K9:7941447,COUNT:0} strings={S1:20424141322c4131,A:,C:,LINE:,B:}\nstep 40: n=0 notes=0 split=- trials=1 in=0 out=0 state=running next=8 held=[] numbers={N:0,M:0,I:0,K9:7941447,COUNT:0} strings={S1:20424141322c4131,A:,C:,LINE:,B:}\nstep 41: n=0 notes=0 split=- trials=0 in=0 out=0 state=running next=4 held=[] numbers={N:0,M:0,I:0,K9:7941447,COUNT:0} strings={S1:20424141322c4131,A:,C:,LINE:,B:}\nstep 42: n=0 notes=0 split=- trials=0 in=0 out=0 state=running next=5 held=[] numbers={N:0,M:0,I:0,K9:7941447,COUNT:0} strings={S1:20424141322c4131,A:,C:,LINE:,B:}\nstep 43: n=0 notes=0 split=- trials=0 in=0 out=0 state=running next=7 held=[] numbers={N:0,M:0,I:0,K9:7941447,COUNT:0} strings={S1:20424141322c4131,A:,C:,LINE:,B:}\nstep 44: n=0 notes=0 split=- trials=1 in=0 out=0 state=running next=8 held=[] numbers={N:0,M:0,I:0,K9:7941447,COUNT:0} strings={S1:20424141322c4131,A:,C:,LINE:,B:}\nstep 45: n=0 notes=0 split=- trials=0 in=0 out=0 state=running next=4 held=[] numbers={N:0,M:0,I:0,K9:7941447,COUNT:0} strings={S1:20424141322c4131,A:,C:,LINE:,B:}\nstep 46: n=0 notes=0 split=- trials=0 in=0 out=0 state=running next=5 held=[] numbers={N:0,M:0,I:0,K9:7941447,COUNT:0} strings={S1:20424141322c4131,A:,C:,LINE:,B:}\nstep 47: n=0 notes=0 split=- trials=0 in=0 out=0 state=running next=7 held=[] numbers={N:0,M:0,I:0,K9:7941447,COUNT:0} strings={S1:20424141322c4131,A:,C:,LINE:,B:}\nstep 48: n=0 notes=0 split=- trials=1 in=0 out=0 state=running next=8 held=[] numbers={N:0,M:0,I:0,K9:7941447,COUNT:0} strings={S1:20424141322c4131,A:,C:,LINE:,B:}\nstep 49: n=0 notes=0 split=- trials=0 in=0 out=0 state=running next=4 held=[] numbers={N:0,M:0,I:0,K9:7941447,COUNT:0} strings={S1:20424141322c4131,A:,C:,LINE:,B:}\nstep 50: n=0 notes=0 split=- trials=0 in=0 out=0 state=running next=5 held=[] numbers={N:0,M:0,I:0,K9:7941447,COUNT:0} strings={S1:20424141322c4131,A:,C:,LINE:,B:}\nstep 51: n=0 notes=0 split=- trials=0 in=0 out=0 state=running next=7 held=[] numbers={N:0,M:0,I:0,K9:7941447,COUNT:0} strings={S1:20424141322c4131,A:,C:,LINE:,B:}\nstep 52: n=0 notes=0 split=- trials=1 in=0 out=0 state=running next=8 held=[] numbers={N:0,M:0,I:0,K9:7941447,COUNT:0} strings={S1:20424141322c4131,A:,C:,LINE:,B:}\nstep 53: n=0 notes=0 split=- trials=0 in=0 out=0 state=running next=4 held=[] numbers={N:0,M:0,I:0,K9:7941447,COUNT:0} strings={S1:20424141322c4131,A:,C:,LINE:,B:}\nstep 54: n=0 notes=0 split=- trials=0 in=0 out=0 state=running next=5 held=[] numbers={N:0,M:0,I:0,K9:7941447,COUNT:0} strings={S1:20424141322c4131,A:,C:,LINE:,B:}\nstep 55: n=0 notes=0 split=- trials=0 in=0 out=0 state=running next=7 held=[] numbers={N:0,M:0,I:0,K9:7941447,COUNT:0} strings={S1:20424141322c4131,A:,C:,LINE:,B:}\nstep 56: n=0 notes=0 split=- trials=1 in=0 out=0 state=running next=8 held=[] numbers={N:0,M:0,I:0,K9:7941447,COUNT:0} strings={S1:20424141322c4131,A:,C:,LINE:,B:}\nstep 57: n=0 notes=0 split=- trials=0 in=0 out=0 state=running next=4 held=[] numbers={N:0,M:0,I:0,K9:7941447,COUNT:0} strings={S1:20424141322c4131,A:,C:,LINE:,B:}\nstep 58: n=0 notes=0 split=- trials=0 in=0 out=0 state=running next=5 held=[] numbers={N:0,M:0,I:0,K9:7941447,COUNT:0} strings={S1:20424141322c4131,A:,C:,LINE:,B:}\nstep 59: n=0 notes=0 split=- trials=0 in=0 out=0 state=running next=7 held=[] numbers={N:0,M:0,I:0,K9:7941447,COUNT:0} strings={S1:20424141322c4131,A:,C:,LINE:,B:}\nstep 60: n=0 notes=0 split=- trials=1 in=0 out=0 state=running next=8 held=[] numbers={N:0,M:0,I:0,K9:7941447,COUNT:0} strings={S1:20424141322c4131,A:,C:,LINE:,B:}\n" ≡ true
unfolding agrees
v139 = refl

v140 : agrees "         PROGRA  M P\n         NUMBE  R N,M,I,K9,COU NT\n                                                                        SEQ\n         K9=(+LENGTH(S1  )/LENGTH(B)-LEN  GTH(A))\n        CSCAN B[(S1),B,A$2  ,(C$1),\",A21A11AAB,B\",(S  1$0),\"1A\"]=A  ,C$3\n         ,\",\"/,DONE\n         A=C,S1$2\n         ROUTINE R1\nL1       I F(CO U NT=6)/L1,L3\n         I= (-8*L ENGTH( S1))\n* COMMENT 4\nL3       READ(60) B$COUNT/L1\n   \n         E N  DROUT INE  \n         EXIT\nLOOP     WRITE B$5\n* COMMENT 8\nDONE     SCAN S1[]=STRING(I),STRING(M,COUNT),\"3(\",\"A1\"/L2,L2\n\n         READ(60)   A\nX9       B=A,S1$2,STRING(M,COUNT),A$0\n         B$K9=C,C$2\n         C=S  T RING(K9),\"11\"\nL2       A=\"A,\"\n         K9=2\n         END                                                            SEQ44671\n" "" "step 1: n=18 notes=0 split=- trials=0 in=0 out=0 state=stopped next=4 held=[] numbers={N:0,M:0,I:0,K9:0,COUNT:0} strings={S1:,B:,A:,C:}\n" ≡ true
unfolding agrees
v140 = refl

v141 : agrees "         PROGRAM LOTS\n         NUMBER R EAD,M,I,K9, COUNT\n         BACKSCAN A$1[\"\"\"]/L1\n         ROUTINE R1\n         TEXTLONG=\"\"\"\n         PRINT(61) S1\nX9       S  CA  N C[]=C/  X  9,X9\n         ENDROUTINE                                                     SEQ29764\n L1      S1$4=\",1\"\n         IF(K9<NUMBER(S1))/L1,LOOP\n         READ(60) S1$M/LOOP,L1\nLOOP     A=\"A\",\"3$\", STRIN  G(K9) \n* COMMENT 4\n         ROUTINE R2\nL3       G=\"1 1\"\nDONE     ENDROU TI NE\n         SCAN C[(A),(  RETURN$3  )]=TEXTLONG\n         BACKSCAN B[]=STRING(READ),B,LINE/,LOOP\n         SC  AN S1[ \",B ,A    ,11\",(LINE),B$ 6, (LINE$3)]/LOOP\n         WR  IT  E(61) RETURN$3                                         SEQ09976\n* COMMENT 2\n         ROUTINE R3\n L2      LINE =RETURN,\",A\",S  TR  ING(COUNT  ),\"AA B,\"\n        XSCAN TEXTLONG[\"1 ,\",(LINE),B$COUNT]=STRING(0,M),LINE,\" \",LINE/LSEQ30908\n         2\n         END  ROUTIN E                                                  SEQ78598\n         END\n" "2B+ 0B2,A-B2 ,2,+-- B,,0A1+AA2 ,-A,+1 AA\n" "step 1: n=0 notes=0 split=- trials=1 in=0 out=0 state=running next=4 held=[] numbers={READ:0,M:0,I:0,K9:0,COUNT:0} strings={A:,TEXTLONG:,S1:,C:,G:,RETURN:,B:,LINE:}\nstep 2: n=0 notes=0 split=- trials=0 in=0 out=0 state=running next=9 held=[] numbers={READ:0,M:0,I:0,K9:0,COUNT:0} strings={A:,TEXTLONG:,S1:,C:,G:,RETURN:,B:,LINE:}\nstep 3: n=0 notes=0 split=- trials=0 in=0 out=0 state=running next=10 held=[] numbers={READ:0,M:0,I:0,K9:0,COUNT:0} strings={A:,TEXTLONG:,S1:2c31,C:,G:,RETURN:,B:,LINE:}\nstep 4: n=0 notes=1 split=- trials=0 in=0 out=0 state=running next=12 held=[] numbers={READ:0,M:0,I:0,K9:0,COUNT:0} strings={A:,TEXTLONG:,S1:2c31,C:,G:,RETURN:,B:,LINE:}\nstep 5: n=0 notes=0 split=- trials=0 in=0 out=0 state=running next=14 held=[] numbers={READ:0,M:0,I:0,K9:0,COUNT:0} strings={A:41332430,TEXTLONG:,S1:2c31,C:,G:,RETURN:,B:,LINE:}\nstep 6: n=0 notes=0 split=- trials=0 in=0 out=0 state=running next=17 held=[] numbers={READ:0,M:0,I:0,K9:0,COUNT:0} strings={A:41332430,TEXTLONG:,S1:2c31,C:,G:,RETURN:,B:,LINE:}\nstep 7: n=0 notes=0 split=- trials=1 in=0 out=0 state=running next=18 held=[] numbers={READ:0,M:0,I:0,K9:0,COUNT:0} strings={A:,TEXTLONG:,S1:2c31,C:,G:,RETURN:,B:,LINE:}\nstep 8: n=0 notes=0 split=0; trials=0 in=0 out=0 state=running next=19 held=[] numbers={READ:0,M:0,I:0,K9:0,COUNT:0} strings={A:,TEXTLONG:,S1:2c31,C:,G:,RETURN:,B:30,LINE:}\nstep 9: n=0 notes=0 split=- trials=1 in=0 out=0 state=running next=20 held=[] numbers={READ:0,M:0,I:0,K9:0,COUNT:0} strings={A:,TEXTLONG:,S1:2c31,C:,G:,RETURN:,B:30,LINE:}\nstep 10: n=0 notes=0 split=- trials=0 in=0 out=0 state=running next=22 held=[] numbers={READ:0,M:0,I:0,K9:0,COUNT:0} strings={A:,TEXTLONG:,S1:2c31,C:,G:,RETURN:,B:30,LINE:}\nstep 11: n=0 notes=0 split=- trials=0 in=0 out=0 state=running next=27 held=[] numbers={READ:0,M:0,I:0,K9:0,COUNT:0} strings={A:,TEXTLONG:,S1:2c31,C:,G:,RETURN:,B:30,LINE:}\nstep 12: n=0 notes=0 split=- trials=0 in=0 out=0 state=finished next=27 held=[] numbers={READ:0,M:0,I:0,K9:0,COUNT:0} strings={A:,TEXTLONG:,S1:2c31,C:,G:,RETURN:,B:30,LINE:}\n" ≡ true
unfolding agrees
v141 = refl

v142 : agrees "         P R  OGRAM P                                                   SEQ03574\n         NUMBER READ,M,I\nDONE     WRIT E(61 ) S1,L  INE$0\nLOOP     IF(  NUL L(W RITE))/,L3\n         LINE$READ=LINE\n         WRITE=WRITE,LINE,LINE,\",1,\"\nX9       PRINT STRING(4,M)\n L2      PR  INT \nL3       A=STRING(I,I),\"A  21, 2B,A2\"\n         R E  AD=+NUM  B  ER  (LINE)\nL1       END                                                            SEQ16541" " 1+-2 \n-A2\n\n,020+AA++,BB\n+-+ BB0+B0A-\n+,+2,-,+A  +0,-,-A +,,,20,A1B-+  +-+A0+A\n22A2,, 2,--2\n+\n" "step 1: n=0 notes=0 split=- trials=0 in=0 out=0 state=running next=4 held=[] numbers={READ:0,M:0,I:0} strings={S1:,LINE:,WRITE:,A:}\nstep 2: n=0 notes=0 split=- trials=0 in=0 out=0 state=running next=5 held=[] numbers={READ:0,M:0,I:0} strings={S1:,LINE:,WRITE:,A:}\nstep 3: n=0 notes=0 split=- trials=0 in=0 out=0 state=running next=6 held=[] numbers={READ:0,M:0,I:0} strings={S1:,LINE:,WRITE:,A:}\nstep 4: n=0 notes=0 split=- trials=0 in=0 out=0 state=running next=7 held=[] numbers={READ:0,M:0,I:0} strings={S1:,LINE:,WRITE:2c312c,A:}\nstep 5: n=0 notes=0 split=- trials=0 in=0 out=5 state=running next=8 held=[] numbers={READ:0,M:0,I:0} strings={S1:,LINE:,WRITE:2c312c,A:}\nstep 6: n=0 notes=0 split=- trials=0 in=0 out=5 state=running next=9 held=[] numbers={READ:0,M:0,I:0} strings={S1:,LINE:,WRITE:2c312c,A:}\nstep 7: n=0 notes=0 split=- trials=0 in=0 out=5 state=running next=10 held=[] numbers={READ:0,M:0,I:0} strings={S1:,LINE:,WRITE:2c312c,A:3041202032312c2032422c4132}\nstep 8: n=0 notes=1 split=- trials=0 in=0 out=5 state=running next=11 held=[] numbers={READ:0,M:0,I:0} strings={S1:,LINE:,WRITE:2c312c,A:3041202032312c2032422c4132}\nstep 9: n=0 notes=0 split=- trials=0 in=0 out=5 state=finished next=11 held=[] numbers={READ:0,M:0,I:0} strings={S1:,LINE:,WRITE:2c312c,A:3041202032312c2032422c4132}\n" ≡ true
unfolding agrees
v142 = refl

v143 : agrees "         P  ROG RAM P\n         NUMBER N,M,I\n        1SCAN S1[\"\n        1=\",(B),\"1\n        CA1,1\"]/,L                                                      SEQ95471\n         OOP\n         IF( +7<7)/  ,L  3\n         TEXTLONG$M=LINE$0\n         EXIT\nX9       B=C\n         PRINT \nL3       SCAN C[TEXTLONG$M]=\"AA \",\"B \"\nDONE     N=M                                                            SEQ84932\n         M=-N\nL2       LINE=\"B\"\nLOOP     SCAN B$0[(A$I),(A),(A$N),STRING(I),B,STRING(M),LINE$I]/,DONE\n* COMMENT 5\n         SCAN LINE[STRING(M,I),(TEXTLONG),C]=STRING(M),\"BB\"/DONE\n L1      WRITE(61) STRING(0,M)\n   \n         END                                                            SEQ39005\n" "" "step 1: n=0 notes=0 split=- trials=1 in=0 out=0 state=running next=16 held=[] numbers={N:0,M:0,I:0} strings={S1:,B:,TEXTLONG:,LINE:,C:,A:}\nstep 2: n=0 notes=0 split=- trials=3 in=0 out=0 state=running next=13 held=[] numbers={N:0,M:0,I:0} strings={S1:,B:,TEXTLONG:,LINE:,C:,A:}\nstep 3: n=0 notes=0 split=- trials=0 in=0 out=0 state=running next=14 held=[] numbers={N:0,M:0,I:0} strings={S1:,B:,TEXTLONG:,LINE:,C:,A:}\nstep 4: n=0 notes=0 split=- trials=0 in=0 out=0 state=running next=15 held=[] numbers={N:0,M:0,I:0} strings={S1:,B:,TEXTLONG:,LINE:,C:,A:}\nstep 5: n=0 notes=0 split=- trials=0 in=0 out=0 state=running next=16 held=[] numbers={N:0,M:0,I:0} strings={S1:,B:,TEXTLONG:,LINE:42,C:,A:}\nstep 6: n=0 notes=0 split=- trials=3 in=0 out=0 state=running next=13 held=[] numbers={N:0,M:0,I:0} strings={S1:,B:,TEXTLONG:,LINE:42,C:,A:}\nstep 7: n=0 notes=0 split=- trials=0 in=0 out=0 state=running next=14 held=[] numbers={N:0,M:0,I:0} strings={S1:,B:,TEXTLONG:,LINE:42,C:,A:}\nstep 8: n=0 notes=0 split=- trials=0 in=0 out=0 state=running next=15 held=[] numbers={N:0,M:0,I:0} strings={S1:,B:,TEXTLONG:,LINE:42,C:,A:}\nstep 9: n=0 notes=0 split=- trials=0 in=0 out=0 state=running next=16 held=[] numbers={N:0,M:0,I:0} strings={S1:,B:,TEXTLONG:,LINE:42,C:,A:}\nstep 10: n=0 notes=0 split=- trials=3 in=0 out=0 state=running next=13 held=[] numbers={N:0,M:0,I:0} strings={S1:,B:,TEXTLONG:,LINE:42,C:,A:}\nstep 11: n=0 notes=0 split=- trials=0 in=0 out=0 state=running next=14 held=[] numbers={N:0,M:0,I:0} strings={S1:,B:,TEXTLONG:,LINE:42,C:,A:}\nstep 12: n=0 notes=0 split=- trials=0 in=0 out=0 state=running next=15 held=[] numbers={N:0,M:0,I:0} strings={S1:,B:,TEXTLONG:,LINE:42,C:,A:}\nstep 13: n=0 notes=0 split=- trials=0 in=0 out=0 state=running next=16 held=[] numbers={N:0,M:0,I:0} strings={S1:,B:,TEXTLONG:,LINE:42,C:,A:}\nstep 14: n=0 notes=0 split=- trials=3 in=0 out=0 state=running next=13 held=[] numbers={N:0,M:0,I:0} strings={S1:,B:,TEXTLONG:,LINE:42,C:,A:}\nstep 15: n=0 notes=0 split=- trials=0 in=0 out=0 state=running next=14 held=[] numbers={N:0,M:0,I:0} strings={S1:,B:,TEXTLONG:,LINE:42,C:,A:}\nstep 16: n=0 notes=0 split=- trials=0 in=0 out=0 state=running next=15 held=[] numbers={N:0,M:0,I:0} strings={S1:,B:,TEXTLONG:,LINE:42,C:,A:}\nstep 17: n=0 notes=0 split=- trials=0 in=0 out=0 state=running next=16 held=[] numbers={N:0,M:0,I:0} strings={S1:,B:,TEXTLONG:,LINE:42,C:,A:}\nstep 18: n=0 notes=0 split=- trials=3 in=0 out=0 state=running next=13 held=[] numbers={N:0,M:0,I:0} strings={S1:,B:,TEXTLONG:,LINE:42,C:,A:}\nstep 19: n=0 notes=0 split=- trials=0 in=0 out=0 state=running next=14 held=[] numbers={N:0,M:0,I:0} strings={S1:,B:,TEXTLONG:,LINE:42,C:,A:}\nstep 20: n=0 notes=0 split=- trials=0 in=0 out=0 state=running next=15 held=[] numbers={N:0,M:0,I:0} strings={S1:,B:,TEXTLONG:,LINE:42,C:,A:}\nstep 21: n=0 notes=0 split=- trials=0 in=0 out=0 state=running next=16 held=[] numbers={N:0,M:0,I:0} strings={S1:,B:,TEXTLONG:,LINE:42,C:,A:}\nstep 22: n=0 notes=0 split=- trials=3 in=0 out=0 state=running next=13 held=[] numbers={N:0,M:0,I:0} strings={S1:,B:,TEXTLONG:,LINE:42,C:,A:}\nstep 23: n=0 notes=0 split=- trials=0 in=0 out=0 state=running next=14 held=[] numbers={N:0,M:0,I:0} strings={S1:,B:,TEXTLONG:,LINE:42,C:,A:}\nstep 24: n=0 notes=0 split=- trials=0 in=0 out=0 state=running next=15 held=[] numbers={N:0,M:0,I:0} strings={S1:,B:,TEXTLONG:,LINE:42,C:,A:}\nstep 25: n=0 notes=0 split=- trials=0 in=0 out=0 state=running next=16 held=[] numbers={N:0,M:0,I:0} strings={S1:,B:,TEXTLONG:,LINE:42,C:,A:}\nstep 26: n=0 notes=0 split=- trials=3 in=0 out=0 state=running next=13 held=[] numbers={N:0,M:0,I:0} strings={S1:,B:,TEXTLONG:,LINE:42,C:,A:}\nstep 27: n=0 notes=0 split=- trials=0 in=0 out=0 state=running next=14 held=[] numbers={N:0,M:0,I:0} strings={S1:,B:,TEXTLONG:,LINE:42,C:,A:}\nstep 28: n=0 notes=0 split=- trials=0 in=0 out=0 state=running next=15 held=[] numbers={N:0,M:0,I:0} strings={S1:,B:,TEXTLONG:,LINE:42,C:,A:}\nstep 29: n=0 notes=0 split=- trials=0 in=0 out=0 state=running next=16 held=[] numbers={N:0,M:0,I:0} strings={S1:,B:,TEXTLONG:,LINE:42,C:,A:}\nstep 30: n=0 notes=0 split=- trials=3 in=0 out=0 state=running next=13 held=[] numbers={N:0,M:0,I:0} strings={S1:,B:,TEXTLONG:,LINE:42,C:,A:}\nstep 31: n=0 notes=0 split=- trials=0 in=0 out=0 state=running next=14 held=[] numbers={N:0,M:0,I:0} strings={S1:,B:,TEXTLONG:,LINE:42,C:,A:}\nstep 32: n=0 notes=0 split=- trials=0 in=0 out=0 state=running next=15 held=[] numbers={N:0,M:0,I:0} strings={S1:,B:,TEXTLONG:,LINE:42,C:,A:}\nstep 33: n=0 notes=0 split=- trials=0 in=0 out=0 state=running next=16 held=[] numbers={N:0,M:0,I:0} strings={S1:,B:,TEXTLONG:,LINE:42,C:,A:}\nstep 34: n=0 notes=0 split=- trials=3 in=0 out=0 state=running next=13 held=[] numbers={N:0,M:0,I:0} strings={S1:,B:,TEXTLONG:,LINE:42,C:,A:}\nstep 35: n=0 notes=0 split=- trials=0 in=0 out=0 state=running next=14 held=[] numbers={N:0,M:0,I:0} strings={S1:,B:,TEXTLONG:,LINE:42,C:,A:}\nstep 36: n=0 notes=0 split=- trials=0 in=0 out=0 state=running next=15 held=[] numbers={N:0,M:0,I:0} strings={S1:,B:,TEXTLONG:,LINE:42,C:,A:}\nstep 37: n=0 notes=0 split=- trials=0 in=0 out=0 state=running next=16 held=[] numbers={N:0,M:0,I:0} strings={S1:,B:,TEXTLONG:,LINE:42,C:,A:}\nstep 38: n=0 notes=0 split=- trials=3 in=0 out=0 state=running next=13 held=[] numbers={N:0,M:0,I:0} strings={S1:,B:,TEXTLONG:,LINE:42,C:,A:}\nstep 39: n=0 notes=0 split=- trials=0 in=0 out=0 state=running next=14 held=[] numbers={N:0,M:0,I:0} strings={S1:,B:,TEXTLONG:,LINE:42,C:,A:}\nstep 40: n=0 notes=0 split=- trials=0 in=0 out=0 state=running next=15 held=[] numbers={N:0,M:0,I:0} strings={S1:,B:,TEXTLONG:,LINE:42,C:,A:}\nstep 41: n=0 notes=0 split=- trials=0 in=0 out=0 state=running next=16 held=[] numbers={N:0,M:0,I:0} strings={S1:,B:,TEXTLONG:,LINE:42,C:,A:}\nstep 42: n=0 notes=0 split=- trials=3 in=0 out=0 state=running next=13 held=[] numbers={N:0,M:0,I:0} strings={S1:,B:,TEXTLONG:,LINE:42,C:,A:}\nstep 43: n=0 notes=0 split=- trials=0 in=0 out=0 state=running next=14 held=[] numbers={N:0,M:0,I:0} strings={S1:,B:,TEXTLONG:,LINE:42,C:,A:}\nstep 44: n=0 notes=0 split=- trials=0 in=0 out=0 state=running next=15 held=[] numbers={N:0,M:0,I:0} strings={S1:,B:,TEXTLONG:,LINE:42,C:,A:}\nstep 45: n=0 notes=0 split=- trials=0 in=0 out=0 state=running next=16 held=[] numbers={N:0,M:0,I:0} strings={S1:,B:,TEXTLONG:,LINE:42,C:,A:}\nstep 46: n=0 notes=0 split=- trials=3 in=0 out=0 state=running next=13 held=[] numbers={N:0,M:0,I:0} strings={S1:,B:,TEXTLONG:,LINE:42,C:,A:}\nstep 47: n=0 notes=0 split=- trials=0 in=0 out=0 state=running next=14 held=[] numbers={N:0,M:0,I:0} strings={S1:,B:,TEXTLONG:,LINE:42,C:,A:}\nstep 48: n=0 notes=0 split=- trials=0 in=0 out=0 state=running next=15 held=[] numbers={N:0,M:0,I:0} strings={S1:,B:,TEXTLONG:,LINE:42,C:,A:}\nstep 49: n=0 notes=0 split=- trials=0 in=0 out=0 state=running next=16 held=[] numbers={N:0,M:0,I:0} strings={S1:,B:,TEXTLONG:,LINE:42,C:,A:}\nstep 50: n=0 notes=0 split=- trials=3 in=0 out=0 state=running next=13 held=[] numbers={N:0,M:0,I:0} strings={S1:,B:,TEXTLONG:,LINE:42,C:,A:}\nstep 51: n=0 notes=0 split=- trials=0 in=0 out=0 state=running next=14 held=[] numbers={N:0,M:0,I:0} strings={S1:,B:,TEXTLONG:,LINE:42,C:,A:}\nstep 52: n=0 notes=0 split=- trials=0 in=0 out=0 state=running next=15 held=[] numbers={N:0,M:0,I:0} strings={S1:,B:,TEXTLONG:,LINE:42,C:,A:}\nstep 53: n=0 notes=0 split=- trials=0 in=0 out=0 state=running next=16 held=[] numbers={N:0,M:0,I:0} strings={S1:,B:,TEXTLONG:,LINE:42,C:,A:}\nstep 54: n=0 notes=0 split=- trials=3 in=0 out=0 state=running next=13 held=[] numbers={N:0,M:0,I:0} strings={S1:,B:,TEXTLONG:,LINE:42,C:,A:}\nstep 55: n=0 notes=0 split=- trials=0 in=0 out=0 state=running next=14 held=[] numbers={N:0,M:0,I:0} strings={S1:,B:,TEXTLONG:,LINE:42,C:,A:}\nstep 56: n=0 notes=0 split=- trials=0 in=0 out=0 state=running next=15 held=[] numbers={N:0,M:0,I:0} strings={S1:,B:,TEXTLONG:,LINE:42,C:,A:}\nstep 57: n=0 notes=0 split=- trials=0 in=0 out=0 state=running next=16 held=[] numbers={N:0,M:0,I:0} strings={S1:,B:,TEXTLONG:,LINE:42,C:,A:}\nstep 58: n=0 notes=0 split=- trials=3 in=0 out=0 state=running next=13 held=[] numbers={N:0,M:0,I:0} strings={S1:,B:,TEXTLONG:,LINE:42,C:,A:}\nstep 59: n=0 notes=0 split=- trials=0 in=0 out=0 state=running next=14 held=[] numbers={N:0,M:0,I:0} strings={S1:,B:,TEXTLONG:,LINE:42,C:,A:}\nstep 60: n=0 notes=0 split=- trials=0 in=0 out=0 state=running next=15 held=[] numbers={N:0,M:0,I:0} strings={S1:,B:,TEXTLONG:,LINE:42,C:,A:}\n" ≡ true
unfolding agrees
v143 = refl

v144 : agrees "         PROGRAM P\n         NUMBER N\nL1       B =\"A\",  B$3,C$N\nL3       C=STRING(0,N),\"BA\",STRING(N)\nX9       C=\"2B\",STRING(N)                                               SEQ81945\nLOOP     C =\"=,1=,A(B=B)+\",C,B,\" B\"\nDONE     READ A\n L2      END\n" "02A1-+B2-2AA0A2+- AB,0,A-00A,AAAB  -+A0-\nA\n" "step 1: n=0 notes=0 split=- trials=0 in=0 out=0 state=running next=4 held=[] numbers={N:0} strings={B:41,C:,A:}\nstep 2: n=0 notes=0 split=- trials=0 in=0 out=0 state=running next=5 held=[] numbers={N:0} strings={B:41,C:30424130,A:}\nstep 3: n=0 notes=0 split=- trials=0 in=0 out=0 state=running next=6 held=[] numbers={N:0} strings={B:41,C:324230,A:}\nstep 4: n=0 notes=0 split=- trials=0 in=0 out=0 state=running next=7 held=[] numbers={N:0} strings={B:41,C:3d2c313d2c4128423d42292b324230412042,A:}\nstep 5: n=0 notes=0 split=- trials=0 in=41 out=0 state=running next=8 held=[] numbers={N:0} strings={B:41,C:3d2c313d2c4128423d42292b324230412042,A:303241312d2b42322d3241413041322b2d2041422c302c412d3030412c4141414220202d2b41302d}\nstep 6: n=0 notes=0 split=- trials=0 in=41 out=0 state=finished next=8 held=[] numbers={N:0} strings={B:41,C:3d2c313d2c4128423d42292b324230412042,A:303241312d2b42322d3241413041322b2d2041422c302c412d3030412c4141414220202d2b41302d}\n" ≡ true
unfolding agrees
v144 = refl

v145 : agrees "         PROGRAM TEST1\n         NUMBER N,M\n         M=(0)\n         F=A$N  ,F,\"A B\"\n X9      PRINT \"A\"\n         R  EAD(60 ) TEXTLONG\nL1       C=STRING(09,M),A,LINE\nL3       PRINT \",\",\"$\",\"2\"\n         READ A$2\nL2       B=TEXTLONG$1,STRING(N),F$6\nLOOP     PRINT LI  NE,B$M\n        CA=TEXTLO\n         NG\n         F$N=\"A ABBA2A2ABA\",S1$M,A,STRING(0,M)\n* COMMENT 3\n         M=NUMBER(B)/LENGTH(TEXTLONG)*NUMBER(G)\nDONE     PRINT(61) F$M\n         SCAN G$1[\"A\"]/L2\n         END\n" "-+AA,A1+A110B0 +,0BA1AA2 +,A ,0A1 +A- 0,\n+10A2A00B ,0,02A2A+-1,0+- ,0+0A22BAB2 - \n B,, 1\n2+2,BA\n" "step 1: n=0 notes=0 split=- trials=0 in=0 out=0 state=running next=4 held=[] numbers={N:0,M:0} strings={F:,A:,TEXTLONG:,C:,LINE:,B:,S1:,G:}\nstep 2: n=0 notes=0 split=- trials=0 in=0 out=0 state=running next=5 held=[] numbers={N:0,M:0} strings={F:412042,A:,TEXTLONG:,C:,LINE:,B:,S1:,G:}\nstep 3: n=0 notes=0 split=- trials=0 in=0 out=2 state=running next=6 held=[] numbers={N:0,M:0} strings={F:412042,A:,TEXTLONG:,C:,LINE:,B:,S1:,G:}\nstep 4: n=0 notes=0 split=- trials=0 in=41 out=2 state=running next=7 held=[] numbers={N:0,M:0} strings={F:412042,A:,TEXTLONG:2d2b41412c41312b413131304230202b2c30424131414132202b2c41202c304131202b412d20302c,C:,LINE:,B:,S1:,G:}\nstep 5: n=0 notes=0 split=- trials=0 in=41 out=2 state=running next=8 held=[] numbers={N:0,M:0} strings={F:412042,A:,TEXTLONG:2d2b41412c41312b413131304230202b2c30424131414132202b2c41202c304131202b412d20302c,C:303030303030303030,LINE:,B:,S1:,G:}\nstep 6: n=0 notes=0 split=- trials=0 in=41 out=6 state=running next=9 held=[] numbers={N:0,M:0} strings={F:412042,A:,TEXTLONG:2d2b41412c41312b413131304230202b2c30424131414132202b2c41202c304131202b412d20302c,C:303030303030303030,LINE:,B:,S1:,G:}\nstep 7: n=0 notes=1 split=- trials=0 in=82 out=6 state=running next=10 held=[] numbers={N:0,M:0} strings={F:412042,A:2b31,TEXTLONG:2d2b41412c41312b413131304230202b2c30424131414132202b2c41202c304131202b412d20302c,C:303030303030303030,LINE:,B:,S1:,G:}\nstep 8: n=0 notes=0 split=- trials=0 in=82 out=6 state=running next=11 held=[] numbers={N:0,M:0} strings={F:412042,A:2b31,TEXTLONG:2d2b41412c41312b413131304230202b2c30424131414132202b2c41202c304131202b412d20302c,C:303030303030303030,LINE:,B:2d30412042,S1:,G:}\nstep 9: n=0 notes=0 split=- trials=0 in=82 out=6 state=running next=12 held=[] numbers={N:0,M:0} strings={F:412042,A:2b31,TEXTLONG:2d2b41412c41312b413131304230202b2c30424131414132202b2c41202c304131202b412d20302c,C:303030303030303030,LINE:,B:2d30412042,S1:,G:}\nstep 10: n=0 notes=0 split=- trials=0 in=82 out=6 state=running next=14 held=[] numbers={N:0,M:0} strings={F:412042,A:2d2b41412c41312b413131304230202b2c30424131414132202b2c41202c304131202b412d20302c,TEXTLONG:2d2b41412c41312b413131304230202b2c30424131414132202b2c41202c304131202b412d20302c,C:303030303030303030,LINE:,B:2d30412042,S1:,G:}\nstep 11: n=0 notes=0 split=- trials=0 in=82 out=6 state=running next=16 held=[] numbers={N:0,M:0} strings={F:4120414242413241324142412d2b41412c41312b413131304230202b2c30424131414132202b2c41202c304131202b412d20302c30412042,A:2d2b41412c41312b413131304230202b2c30424131414132202b2c41202c304131202b412d20302c,TEXTLONG:2d2b41412c41312b413131304230202b2c30424131414132202b2c41202c304131202b412d20302c,C:303030303030303030,LINE:,B:2d30412042,S1:,G:}\nstep 12: n=0 notes=2 split=- trials=0 in=82 out=6 state=running next=17 held=[] numbers={N:0,M:0} strings={F:4120414242413241324142412d2b41412c41312b413131304230202b2c30424131414132202b2c41202c304131202b412d20302c30412042,A:2d2b41412c41312b413131304230202b2c30424131414132202b2c41202c304131202b412d20302c,TEXTLONG:2d2b41412c41312b413131304230202b2c30424131414132202b2c41202c304131202b412d20302c,C:303030303030303030,LINE:,B:2d30412042,S1:,G:}\nstep 13: n=0 notes=0 split=- trials=0 in=82 out=6 state=running next=18 held=[] numbers={N:0,M:0} strings={F:4120414242413241324142412d2b41412c41312b413131304230202b2c30424131414132202b2c41202c304131202b412d20302c30412042,A:2d2b41412c41312b413131304230202b2c30424131414132202b2c41202c304131202b412d20302c,TEXTLONG:2d2b41412c41312b413131304230202b2c30424131414132202b2c41202c304131202b412d20302c,C:303030303030303030,LINE:,B:2d30412042,S1:,G:}\nstep 14: n=0 notes=0 split=- trials=1 in=82 out=6 state=running next=19 held=[] numbers={N:0,M:0} strings={F:4120414242413241324142412d2b41412c41312b413131304230202b2c30424131414132202b2c41202c304131202b412d20302c30412042,A:2d2b41412c41312b413131304230202b2c30424131414132202b2c41202c304131202b412d20302c,TEXTLONG:2d2b41412c41312b413131304230202b2c30424131414132202b2c41202c304131202b412d20302c,C:303030303030303030,LINE:,B:2d30412042,S1:,G:}\nstep 15: n=0 notes=0 split=- trials=0 in=82 out=6 state=finished next=19 held=[] numbers={N:0,M:0} strings={F:4120414242413241324142412d2b41412c41312b413131304230202b2c30424131414132202b2c41202c304131202b412d20302c30412042,A:2d2b41412c41312b413131304230202b2c30424131414132202b2c41202c304131202b412d20302c,TEXTLONG:2d2b41412c41312b413131304230202b2c30424131414132202b2c41202c304131202b412d20302c,C:303030303030303030,LINE:,B:2d30412042,S1:,G:}\n" ≡ true
unfolding agrees
v145 = refl

v146 : agrees "         PROGRAM T EST1\nSTART    NUMBER N,M,I,K9,COUNT\n* COMMENT 3\nL2      CBACK SC AN TEXT LONG$M[(S1),(LI NE), A$M,(S1  $0),( C) ,\"B\",  (\n IGNORED S 1)]\n         ROUTINE R2\n         PRINT \")()\"                                                    SEQ34910\n         WRITE  \"\"\"\n         C$  1=\n         N=M                                                            SEQ16741\n L3      END  ROUTINE\n         C=C$1,B,\" \",B\n        +IF(NU\n        1MERIC                                                          SEQ84169\n        X(TEXT\n        +LONG)\n        X)/L1,\n         LOOP\n        1M=07*NUMBER(C$K9)*LENGTH(B)-NUMBER(B$1)-LENGTH(S1)+(-3944/3)/26\n         1737-LENGTH(B)\n         K9=K 9+I+L  EN  GTH(  C) - 2893\n         C=\",2\",\"2\",LINE$0,S1\n\n         PRINT \"2\",TEXTLONG$I,STRING(N)\n* COMMENT 7\n         TEXTLONG=S1\n         M=M/I\n         M=K9                                                           SEQ46676\nL1       READ(60) C/LOOP\nLOOP     BACKSCAN B[(LINE)]=\"A A ,A 1BAA2\",S1$M,A$K9,\"2)=$=++11)$,\"/,L1\n         ROU  T INE R3\nDONE     L IN  E= \"21 \",\"A1\"\n         GO   TO DO  NE\n* COMMENT 0\n        *IF(3<7)/DO\n         NE,DONE\n         B =S  1,S TR ING(0 ,  M),\",\"\n* COMMENT 6\n         ENDR OUTINE\n         R  OUT  INE R1\nX9       P  R  INT T  EXTLONG,S1$ 4,TEX TLONG$C O  UNT\n         BACKSCAN LINE[(B$0),A]\n         ENDROUTINE                                                     SEQ50031\n         END\n" "+,,-A1\n" "step 1: n=0 notes=0 split=- trials=3 in=0 out=0 state=running next=6 held=[] numbers={N:0,M:0,I:0,K9:0,COUNT:0} strings={TEXTLONG:,S1:,LINE:,A:,C:,B:}\nstep 2: n=0 notes=0 split=- trials=0 in=0 out=0 state=running next=12 held=[] numbers={N:0,M:0,I:0,K9:0,COUNT:0} strings={TEXTLONG:,S1:,LINE:,A:,C:,B:}\nstep 3: n=0 notes=0 split=- trials=0 in=0 out=0 state=running next=13 held=[] numbers={N:0,M:0,I:0,K9:0,COUNT:0} strings={TEXTLONG:,S1:,LINE:,A:,C:20,B:}\nstep 4: n=0 notes=0 split=- trials=0 in=0 out=0 state=running next=30 held=[] numbers={N:0,M:0,I:0,K9:0,COUNT:0} strings={TEXTLONG:,S1:,LINE:,A:,C:20,B:}\nstep 5: n=0 notes=0 split=0;0 trials=0 in=0 out=0 state=running next=31 held=[] numbers={N:0,M:0,I:0,K9:0,COUNT:0} strings={TEXTLONG:,S1:,LINE:,A:,C:20,B:2c242931312b2b3d243d2932324141423120412c20412041}\nstep 6: n=0 notes=0 split=- trials=0 in=0 out=0 state=running next=40 held=[] numbers={N:0,M:0,I:0,K9:0,COUNT:0} strings={TEXTLONG:,S1:,LINE:,A:,C:20,B:2c242931312b2b3d243d2932324141423120412c20412041}\nstep 7: n=0 notes=0 split=- trials=0 in=0 out=0 state=running next=44 held=[] numbers={N:0,M:0,I:0,K9:0,COUNT:0} strings={TEXTLONG:,S1:,LINE:,A:,C:20,B:2c242931312b2b3d243d2932324141423120412c20412041}\nstep 8: n=0 notes=0 split=- trials=0 in=0 out=0 state=finished next=44 held=[] numbers={N:0,M:0,I:0,K9:0,COUNT:0} strings={TEXTLONG:,S1:,LINE:,A:,C:20,B:2c242931312b2b3d243d2932324141423120412c20412041}\n" ≡ true
unfolding agrees
v146 = refl

v147 : agrees "         PROGR  AM LOTS                                                 SEQ32952\n         NUMBER N                                                       SEQ89199\n         PRINT(6  1) \"A\",B,A,B \nLOOP     SCAN A[(B$0)]=B\n         SCAN B  $0006[\"1A\",B, \"A11AA\"]\n         B$2=\"A(\",STRING(0,N)\n         ROUTINE R2\n* COMMENT 8\nDONE     GO TO DONE\n         ENDROUTINE\n         ROUTINE R1\nX9       C$N=\"(\"\n\nL3       SCAN C[C,B,(A)]=STRING(N),\" ,12 \",STRING(N,N),C\nL2       IF(N >=LENG T H(C))/X  9, L3 \nL1       ENDROUTINE\n        +BACKSCAN B$N[STRING(N ),  (C) ,(C),(C),STRING(0,N ),(C$0),\"A\"]=\n         /LO OP ,LOOP  \n         N=N/NUMBER(C)*(+N)*LENGTH(B)\n         SCAN C[(B$2),(A),(B),(B)]\n         EXIT\n         A=STRING(0,N),B$2\n         GO TO   L1                                                     SEQ94585\n         P  RINT A,\"0)$\"\n         N=+LENGTH( C ) /N+NU MBER(B)\n         A$0=\"A\",C\n                                                                        SEQ\n         END\n" "-,A\n++,,0+A++AA 120122A0- A,BA-++A,B+1,2+  A\n" "REFUSED 11 0\n" ≡ true
unfolding agrees
v147 = refl

v148 : agrees "         PRO GRAM   TEST1\n         NUMBER N,M,I,K9\n         A=S1,\"2\",STRI NG(0 ,N)\nL3       PRINT LINE\n L1      ROUTINE R1\nL2       LINE  =\"\"\"\nDONE     IF(NUMERIC(TEXTLONG))/LOOP\n         I=K9/I\n         PRI N  T(61)  A,LINE,ST RING(I)\nLOOP     ENDROUTINE\n         IF(N=4)/,X9\n         K9=5-3\n         BACKSC  AN LINE$5[ (A)]=TEXTLONG$N  /L3\n* COMMENT 8\n        CSCAN B$5[\"1\",(LINE$K9),STRING(K9),(C$K9),TEXTLONG$0,\"2\",(C)]=C$\n         K9,S1,C$N,S1/,X9\n                                                                        SEQ\n         IF(  NULL(TE XT LON G))/L3\nX9       S1=  \"2\",\"A\"\n         END\n" "" "step 1: n=0 notes=0 split=- trials=0 in=0 out=0 state=running next=4 held=[] numbers={N:0,M:0,I:0,K9:0} strings={A:3230,S1:,LINE:,TEXTLONG:,B:,C:}\nstep 2: n=0 notes=0 split=- trials=0 in=0 out=0 state=running next=5 held=[] numbers={N:0,M:0,I:0,K9:0} strings={A:3230,S1:,LINE:,TEXTLONG:,B:,C:}\nstep 3: n=0 notes=0 split=- trials=0 in=0 out=0 state=running next=11 held=[] numbers={N:0,M:0,I:0,K9:0} strings={A:3230,S1:,LINE:,TEXTLONG:,B:,C:}\nstep 4: n=0 notes=0 split=- trials=0 in=0 out=0 state=running next=19 held=[] numbers={N:0,M:0,I:0,K9:0} strings={A:3230,S1:,LINE:,TEXTLONG:,B:,C:}\nstep 5: n=0 notes=0 split=- trials=0 in=0 out=0 state=running next=20 held=[] numbers={N:0,M:0,I:0,K9:0} strings={A:3230,S1:3241,LINE:,TEXTLONG:,B:,C:}\nstep 6: n=0 notes=0 split=- trials=0 in=0 out=0 state=finished next=20 held=[] numbers={N:0,M:0,I:0,K9:0} strings={A:3230,S1:3241,LINE:,TEXTLONG:,B:,C:}\n" ≡ true
unfolding agrees
v148 = refl
