-- Decks with their inputs and traces. Assumes nothing.
use Rattle.std.specs.Prelude.{true, ◌≡◌, refl}
use Rattle.vectors.specs.Trace.{agrees, agrees_whole}

r86 : agrees_whole "         PROGRAM T\n         NUMBER N\n         N=-1\n         READ X$N\n         END\n" "" "step 1: n=0 notes=0 split=- trials=0 in=0 out=0 state=running next=4 held=[] numbers={N:-1} strings={X:}\nstep 2: n=17 notes=0 split=- trials=0 in=0 out=0 state=stopped next=4 held=[] numbers={N:-1} strings={X:}\n" "STOPPED,17,2,0\n" ≡ true
unfolding agrees_whole
r86 = refl

r87 : agrees_whole "         PROGRAM T\n         X=\"OLD\"\n         READ X/L\n         PRINT \"F\"\nL        READ Y\n         PRINT X,Y\n         END\n" "\nA" "step 1: n=0 notes=0 split=- trials=0 in=0 out=0 state=running next=3 held=[] numbers={} strings={X:4f4c44,Y:}\nstep 2: n=0 notes=0 split=- trials=0 in=1 out=0 state=running next=5 held=[] numbers={} strings={X:,Y:}\nstep 3: n=0 notes=0 split=- trials=0 in=2 out=0 state=running next=6 held=[] numbers={} strings={X:,Y:41}\nstep 4: n=0 notes=0 split=- trials=0 in=2 out=2 state=running next=7 held=[] numbers={} strings={X:,Y:41}\nstep 5: n=0 notes=0 split=- trials=0 in=2 out=2 state=finished next=7 held=[] numbers={} strings={X:,Y:41}\n" "A\nFINISHED,0,5,0\n" ≡ true
unfolding agrees_whole
r87 = refl

r88 : agrees_whole "         PROGRAM T\nL        READ X/L\n         END\n" "A\n" "step 1: n=0 notes=0 split=- trials=0 in=2 out=0 state=running next=2 held=[] numbers={} strings={X:41}\nstep 2: n=0 notes=0 split=- trials=0 in=2 out=0 state=running next=3 held=[] numbers={} strings={X:41}\nstep 3: n=0 notes=0 split=- trials=0 in=2 out=0 state=finished next=3 held=[] numbers={} strings={X:41}\n" "FINISHED,0,3,0\n" ≡ true
unfolding agrees_whole
r88 = refl

r89 : agrees_whole "         PROGRAM T\n         READ X$2\n         READ Y\n         PRINT X,Y\n         END\n" "ABCD\nEF\n" "step 1: n=0 notes=1 split=- trials=0 in=5 out=0 state=running next=3 held=[] numbers={} strings={X:4142,Y:}\nstep 2: n=0 notes=0 split=- trials=0 in=8 out=0 state=running next=4 held=[] numbers={} strings={X:4142,Y:4546}\nstep 3: n=0 notes=0 split=- trials=0 in=8 out=5 state=running next=5 held=[] numbers={} strings={X:4142,Y:4546}\nstep 4: n=0 notes=0 split=- trials=0 in=8 out=5 state=finished next=5 held=[] numbers={} strings={X:4142,Y:4546}\n" "ABEF\nFINISHED,0,4,1\n" ≡ true
unfolding agrees_whole
r89 = refl

r90 : agrees_whole "         PROGRAM T\n         NUMBER N\n         N=-1\n         PRINT S$N,S\n         END\n" "" "step 1: n=0 notes=0 split=- trials=0 in=0 out=0 state=running next=4 held=[] numbers={N:-1} strings={S:}\nstep 2: n=0 notes=1 split=- trials=0 in=0 out=0 state=running next=5 held=[] numbers={N:-1} strings={S:}\nstep 3: n=0 notes=0 split=- trials=0 in=0 out=0 state=finished next=5 held=[] numbers={N:-1} strings={S:}\n" "FINISHED,0,3,1\n" ≡ true
unfolding agrees_whole
r90 = refl

r91 : agrees_whole "         PROGRAM T\n         NUMBER N\n         X=STRING(1024,N)\n         PRINT X,X\n         END\n" "" "step 1: n=0 notes=0 split=- trials=0 in=0 out=0 state=running next=4 held=[] numbers={N:0} strings={X:30303030303030303030303030303030303030303030303030303030303030303030303030303030303030303030303030303030303030303030303030303030303030303030303030303030303030303030303030303030303030303030303030303030303030303030303030303030303030303030303030303030303030303030303030303030303030303030303030303030303030303030303030303030303030303030303030303030303030303030303030303030303030303030303030303030303030303030303030303030303030303030303030303030303030303030303030303030303030303030303030303030303030303030303030303030303030303030303030303030303030303030303030303030303030303030303030303030303030303030303030303030303030303030303030303030303030303030303030303030303030303030303030303030303030303030303030303030303030303030303030303030303030303030303030303030303030303030303030303030303030303030303030303030303030303030303030303030303030303030303030303030303030303030303030303030303030303030303030303030303030303030303030303030303030303030303030303030303030303030303030303030303030303030303030303030303030303030303030303030303030303030303030303030303030303030303030303030303030303030303030303030303030303030303030303030303030303030303030303030303030303030303030303030303030303030303030303030303030303030303030303030303030303030303030303030303030303030303030303030303030303030303030303030303030303030303030303030303030303030303030303030303030303030303030303030303030303030303030303030303030303030303030303030303030303030303030303030303030303030303030303030303030303030303030303030303030303030303030303030303030303030303030303030303030303030303030303030303030303030303030303030303030303030303030303030303030303030303030303030303030303030303030303030303030303030303030303030303030303030303030303030303030303030303030303030303030303030303030303030303030303030303030303030303030303030303030303030303030303030303030303030303030303030303030303030303030303030303030303030303030303030303030303030303030303030303030303030303030303030303030303030303030303030303030303030303030303030303030303030303030303030303030303030303030303030303030303030303030303030303030303030}\nstep 2: n=21 notes=0 split=- trials=0 in=0 out=0 state=stopped next=4 held=[] numbers={N:0} strings={X:30303030303030303030303030303030303030303030303030303030303030303030303030303030303030303030303030303030303030303030303030303030303030303030303030303030303030303030303030303030303030303030303030303030303030303030303030303030303030303030303030303030303030303030303030303030303030303030303030303030303030303030303030303030303030303030303030303030303030303030303030303030303030303030303030303030303030303030303030303030303030303030303030303030303030303030303030303030303030303030303030303030303030303030303030303030303030303030303030303030303030303030303030303030303030303030303030303030303030303030303030303030303030303030303030303030303030303030303030303030303030303030303030303030303030303030303030303030303030303030303030303030303030303030303030303030303030303030303030303030303030303030303030303030303030303030303030303030303030303030303030303030303030303030303030303030303030303030303030303030303030303030303030303030303030303030303030303030303030303030303030303030303030303030303030303030303030303030303030303030303030303030303030303030303030303030303030303030303030303030303030303030303030303030303030303030303030303030303030303030303030303030303030303030303030303030303030303030303030303030303030303030303030303030303030303030303030303030303030303030303030303030303030303030303030303030303030303030303030303030303030303030303030303030303030303030303030303030303030303030303030303030303030303030303030303030303030303030303030303030303030303030303030303030303030303030303030303030303030303030303030303030303030303030303030303030303030303030303030303030303030303030303030303030303030303030303030303030303030303030303030303030303030303030303030303030303030303030303030303030303030303030303030303030303030303030303030303030303030303030303030303030303030303030303030303030303030303030303030303030303030303030303030303030303030303030303030303030303030303030303030303030303030303030303030303030303030303030303030303030303030303030303030303030303030303030303030303030303030303030303030303030303030303030303030303030303030303030303030303030303030303030}\n" "0000000000000000000000000000000000000000000000000000000000000000000000000000000000000000000000000000000000000000000000000000000000000000000000000000000000000000000000000000000000000000000000000000000000000000000000000000000000000000000000000000000000000000000000000000000000000000000000000000000000000000000000000000000000000000000000000000000000000000000000000000000000000000000000000000000000000000000000000000000000000000000000000000000000000000000000000000000000000000000000000000000000000000000000000000000000000000000000000000000000000000000000000000000000000000000000000000000000000000000000000000000000000000000000000000000000000000000000000000000000000000000000000000000000000000000000000000000000000000000000000000000000000000000000000000000000000000000000000000000000000000000000000000000000000000000000000000000000000000000000000000000000000000000000000000000000000000000000000000000000000000000000000000000000000000000000000000000000000000000000000000000000000000000000000000000000000000000000000000000000000000\nFINISHED,0,3,1\n" ≡ true
unfolding agrees_whole
r91 = refl

r92 : agrees "         PROGRAM T\n         NUMBER N\n         N=0\nL        N=N+1\n         IF(N<499999)/L\n         END\n" "" "step 1: n=0 notes=0 split=- trials=0 in=0 out=0 state=running next=4 held=[] numbers={N:0} strings={}\nstep 2: n=0 notes=0 split=- trials=0 in=0 out=0 state=running next=5 held=[] numbers={N:1} strings={}\nstep 3: n=0 notes=0 split=- trials=0 in=0 out=0 state=running next=4 held=[] numbers={N:1} strings={}\nstep 4: n=0 notes=0 split=- trials=0 in=0 out=0 state=running next=5 held=[] numbers={N:2} strings={}\nstep 5: n=0 notes=0 split=- trials=0 in=0 out=0 state=running next=4 held=[] numbers={N:2} strings={}\nstep 6: n=0 notes=0 split=- trials=0 in=0 out=0 state=running next=5 held=[] numbers={N:3} strings={}\nstep 7: n=0 notes=0 split=- trials=0 in=0 out=0 state=running next=4 held=[] numbers={N:3} strings={}\nstep 8: n=0 notes=0 split=- trials=0 in=0 out=0 state=running next=5 held=[] numbers={N:4} strings={}\nstep 9: n=0 notes=0 split=- trials=0 in=0 out=0 state=running next=4 held=[] numbers={N:4} strings={}\nstep 10: n=0 notes=0 split=- trials=0 in=0 out=0 state=running next=5 held=[] numbers={N:5} strings={}\nstep 11: n=0 notes=0 split=- trials=0 in=0 out=0 state=running next=4 held=[] numbers={N:5} strings={}\nstep 12: n=0 notes=0 split=- trials=0 in=0 out=0 state=running next=5 held=[] numbers={N:6} strings={}\nstep 13: n=0 notes=0 split=- trials=0 in=0 out=0 state=running next=4 held=[] numbers={N:6} strings={}\nstep 14: n=0 notes=0 split=- trials=0 in=0 out=0 state=running next=5 held=[] numbers={N:7} strings={}\nstep 15: n=0 notes=0 split=- trials=0 in=0 out=0 state=running next=4 held=[] numbers={N:7} strings={}\nstep 16: n=0 notes=0 split=- trials=0 in=0 out=0 state=running next=5 held=[] numbers={N:8} strings={}\nstep 17: n=0 notes=0 split=- trials=0 in=0 out=0 state=running next=4 held=[] numbers={N:8} strings={}\nstep 18: n=0 notes=0 split=- trials=0 in=0 out=0 state=running next=5 held=[] numbers={N:9} strings={}\nstep 19: n=0 notes=0 split=- trials=0 in=0 out=0 state=running next=4 held=[] numbers={N:9} strings={}\nstep 20: n=0 notes=0 split=- trials=0 in=0 out=0 state=running next=5 held=[] numbers={N:10} strings={}\nstep 21: n=0 notes=0 split=- trials=0 in=0 out=0 state=running next=4 held=[] numbers={N:10} strings={}\nstep 22: n=0 notes=0 split=- trials=0 in=0 out=0 state=running next=5 held=[] numbers={N:11} strings={}\nstep 23: n=0 notes=0 split=- trials=0 in=0 out=0 state=running next=4 held=[] numbers={N:11} strings={}\nstep 24: n=0 notes=0 split=- trials=0 in=0 out=0 state=running next=5 held=[] numbers={N:12} strings={}\nstep 25: n=0 notes=0 split=- trials=0 in=0 out=0 state=running next=4 held=[] numbers={N:12} strings={}\nstep 26: n=0 notes=0 split=- trials=0 in=0 out=0 state=running next=5 held=[] numbers={N:13} strings={}\nstep 27: n=0 notes=0 split=- trials=0 in=0 out=0 state=running next=4 held=[] numbers={N:13} strings={}\nstep 28: n=0 notes=0 split=- trials=0 in=0 out=0 state=running next=5 held=[] numbers={N:14} strings={}\nstep 29: n=0 notes=0 split=- trials=0 in=0 out=0 state=running next=4 held=[] numbers={N:14} strings={}\nstep 30: n=0 notes=0 split=- trials=0 in=0 out=0 state=running next=5 held=[] numbers={N:15} strings={}\nstep 31: n=0 notes=0 split=- trials=0 in=0 out=0 state=running next=4 held=[] numbers={N:15} strings={}\nstep 32: n=0 notes=0 split=- trials=0 in=0 out=0 state=running next=5 held=[] numbers={N:16} strings={}\nstep 33: n=0 notes=0 split=- trials=0 in=0 out=0 state=running next=4 held=[] numbers={N:16} strings={}\nstep 34: n=0 notes=0 split=- trials=0 in=0 out=0 state=running next=5 held=[] numbers={N:17} strings={}\nstep 35: n=0 notes=0 split=- trials=0 in=0 out=0 state=running next=4 held=[] numbers={N:17} strings={}\nstep 36: n=0 notes=0 split=- trials=0 in=0 out=0 state=running next=5 held=[] numbers={N:18} strings={}\nstep 37: n=0 notes=0 split=- trials=0 in=0 out=0 state=running next=4 held=[] numbers={N:18} strings={}\nstep 38: n=0 notes=0 split=- trials=0 in=0 out=0 state=running next=5 held=[] numbers={N:19} strings={}\nstep 39: n=0 notes=0 split=- trials=0 in=0 out=0 state=running next=4 held=[] numbers={N:19} strings={}\nstep 40: n=0 notes=0 split=- trials=0 in=0 out=0 state=running next=5 held=[] numbers={N:20} strings={}\nstep 41: n=0 notes=0 split=- trials=0 in=0 out=0 state=running next=4 held=[] numbers={N:20} strings={}\nstep 42: n=0 notes=0 split=- trials=0 in=0 out=0 state=running next=5 held=[] numbers={N:21} strings={}\nstep 43: n=0 notes=0 split=- trials=0 in=0 out=0 state=running next=4 held=[] numbers={N:21} strings={}\nstep 44: n=0 notes=0 split=- trials=0 in=0 out=0 state=running next=5 held=[] numbers={N:22} strings={}\nstep 45: n=0 notes=0 split=- trials=0 in=0 out=0 state=running next=4 held=[] numbers={N:22} strings={}\nstep 46: n=0 notes=0 split=- trials=0 in=0 out=0 state=running next=5 held=[] numbers={N:23} strings={}\nstep 47: n=0 notes=0 split=- trials=0 in=0 out=0 state=running next=4 held=[] numbers={N:23} strings={}\nstep 48: n=0 notes=0 split=- trials=0 in=0 out=0 state=running next=5 held=[] numbers={N:24} strings={}\nstep 49: n=0 notes=0 split=- trials=0 in=0 out=0 state=running next=4 held=[] numbers={N:24} strings={}\nstep 50: n=0 notes=0 split=- trials=0 in=0 out=0 state=running next=5 held=[] numbers={N:25} strings={}\nstep 51: n=0 notes=0 split=- trials=0 in=0 out=0 state=running next=4 held=[] numbers={N:25} strings={}\nstep 52: n=0 notes=0 split=- trials=0 in=0 out=0 state=running next=5 held=[] numbers={N:26} strings={}\nstep 53: n=0 notes=0 split=- trials=0 in=0 out=0 state=running next=4 held=[] numbers={N:26} strings={}\nstep 54: n=0 notes=0 split=- trials=0 in=0 out=0 state=running next=5 held=[] numbers={N:27} strings={}\nstep 55: n=0 notes=0 split=- trials=0 in=0 out=0 state=running next=4 held=[] numbers={N:27} strings={}\nstep 56: n=0 notes=0 split=- trials=0 in=0 out=0 state=running next=5 held=[] numbers={N:28} strings={}\nstep 57: n=0 notes=0 split=- trials=0 in=0 out=0 state=running next=4 held=[] numbers={N:28} strings={}\nstep 58: n=0 notes=0 split=- trials=0 in=0 out=0 state=running next=5 held=[] numbers={N:29} strings={}\nstep 59: n=0 notes=0 split=- trials=0 in=0 out=0 state=running next=4 held=[] numbers={N:29} strings={}\nstep 60: n=0 notes=0 split=- trials=0 in=0 out=0 state=running next=5 held=[] numbers={N:30} strings={}\n" ≡ true
unfolding agrees
r92 = refl

r93 : agrees_whole "         PROGRAM T\n         NUMBER N\n         N=NUMBER(S)\n         N=NUMBER(S)\n         END\n" "" "step 1: n=0 notes=1 split=- trials=0 in=0 out=0 state=running next=4 held=[] numbers={N:0} strings={S:}\nstep 2: n=0 notes=1 split=- trials=0 in=0 out=0 state=running next=5 held=[] numbers={N:0} strings={S:}\nstep 3: n=0 notes=0 split=- trials=0 in=0 out=0 state=finished next=5 held=[] numbers={N:0} strings={S:}\n" "FINISHED,0,3,2\n" ≡ true
unfolding agrees_whole
r93 = refl

r94 : agrees_whole "         PROGRAM T\n         EXECUTE R\n         ROUTINE R\n         EXIT\n         ENDROUTINE\n         END\n" "" "step 1: n=0 notes=0 split=- trials=0 in=0 out=0 state=running next=4 held=[3] numbers={} strings={}\nstep 2: n=0 notes=0 split=- trials=0 in=0 out=0 state=finished next=4 held=[3] numbers={} strings={}\n" "FINISHED,0,2,0\n" ≡ true
unfolding agrees_whole
r94 = refl

r95 : agrees_whole "         PROGRAM T\n         EXECUTE R\n         NUMBER N\n         ROUTINE R\n         ENDROUTINE\n         END\n" "" "step 1: n=0 notes=0 split=- trials=0 in=0 out=0 state=running next=5 held=[4] numbers={N:0} strings={}\nstep 2: n=0 notes=0 split=- trials=0 in=0 out=0 state=running next=4 held=[] numbers={N:0} strings={}\nstep 3: n=0 notes=0 split=- trials=0 in=0 out=0 state=running next=6 held=[] numbers={N:0} strings={}\nstep 4: n=0 notes=0 split=- trials=0 in=0 out=0 state=finished next=6 held=[] numbers={N:0} strings={}\n" "FINISHED,0,4,0\n" ≡ true
unfolding agrees_whole
r95 = refl

r96 : agrees_whole "         PROGRAM T\n         END\n" "" "step 1: n=0 notes=0 split=- trials=0 in=0 out=0 state=finished next=2 held=[] numbers={} strings={}\n" "FINISHED,0,1,0\n" ≡ true
unfolding agrees_whole
r96 = refl

v000 : agrees "         PROGRAM P\n         NUMBER N,M,I,K9,COUNT\nL2       C=S1,F$1\nX9       SCAN C[(F),C,(F$N),S1,(B)]/L2,L2\n         COUNT=I\n         N=NUMBER(F$  M  )*LENGTH( S1)\n         IF(-8>M)/LOOP,DONE\n         N=NUMBER(F)\nL1       N=4  2  23\nL3       A=\" A\",C                                                       SEQ01124\n* COMMENT 6\n        *K9=(1  136-  NUMBER(S1)-(I-0/NUMBER(TE XT  LONG$C  OU N T  )  )\n         *32)\n                                                                        SEQ\n         K9  =M*NUMBER(  LINE  $ K9)-M\n         M=-6\nDONE     SCAN F[\"\"\",(S1),C$3,(TEXTLONG),(C$0),\"\"\",(LINE$1)]=\",\"\n         BACKSCAN LINE[(A),F]/L1\n* COMMENT 2\nLOOP     END\n" "" "step 1: n=0 notes=0 split=- trials=0 in=0 out=0 state=running next=4 held=[] numbers={N:0,M:0,I:0,K9:0,COUNT:0} strings={C:,S1:,F:,B:,A:,TEXTLONG:,LINE:}\nstep 2: n=0 notes=0 split=0;0,0,0,0,0 trials=3 in=0 out=0 state=running next=3 held=[] numbers={N:0,M:0,I:0,K9:0,COUNT:0} strings={C:,S1:,F:,B:,A:,TEXTLONG:,LINE:}\nstep 3: n=0 notes=0 split=- trials=0 in=0 out=0 state=running next=4 held=[] numbers={N:0,M:0,I:0,K9:0,COUNT:0} strings={C:,S1:,F:,B:,A:,TEXTLONG:,LINE:}\nstep 4: n=0 notes=0 split=0;0,0,0,0,0 trials=3 in=0 out=0 state=running next=3 held=[] numbers={N:0,M:0,I:0,K9:0,COUNT:0} strings={C:,S1:,F:,B:,A:,TEXTLONG:,LINE:}\nstep 5: n=0 notes=0 split=- trials=0 in=0 out=0 state=running next=4 held=[] numbers={N:0,M:0,I:0,K9:0,COUNT:0} strings={C:,S1:,F:,B:,A:,TEXTLONG:,LINE:}\nstep 6: n=0 notes=0 split=0;0,0,0,0,0 trials=3 in=0 out=0 state=running next=3 held=[] numbers={N:0,M:0,I:0,K9:0,COUNT:0} strings={C:,S1:,F:,B:,A:,TEXTLONG:,LINE:}\nstep 7: n=0 notes=0 split=- trials=0 in=0 out=0 state=running next=4 held=[] numbers={N:0,M:0,I:0,K9:0,COUNT:0} strings={C:,S1:,F:,B:,A:,TEXTLONG:,LINE:}\nstep 8: n=0 notes=0 split=0;0,0,0,0,0 trials=3 in=0 out=0 state=running next=3 held=[] numbers={N:0,M:0,I:0,K9:0,COUNT:0} strings={C:,S1:,F:,B:,A:,TEXTLONG:,LINE:}\nstep 9: n=0 notes=0 split=- trials=0 in=0 out=0 state=running next=4 held=[] numbers={N:0,M:0,I:0,K9:0,COUNT:0} strings={C:,S1:,F:,B:,A:,TEXTLONG:,LINE:}\nstep 10: n=0 notes=0 split=0;0,0,0,0,0 trials=3 in=0 out=0 state=running next=3 held=[] numbers={N:0,M:0,I:0,K9:0,COUNT:0} strings={C:,S1:,F:,B:,A:,TEXTLONG:,LINE:}\nstep 11: n=0 notes=0 split=- trials=0 in=0 out=0 state=running next=4 held=[] numbers={N:0,M:0,I:0,K9:0,COUNT:0} strings={C:,S1:,F:,B:,A:,TEXTLONG:,LINE:}\nstep 12: n=0 notes=0 split=0;0,0,0,0,0 trials=3 in=0 out=0 state=running next=3 held=[] numbers={N:0,M:0,I:0,K9:0,COUNT:0} strings={C:,S1:,F:,B:,A:,TEXTLONG:,LINE:}\nstep 13: n=0 notes=0 split=- trials=0 in=0 out=0 state=running next=4 held=[] numbers={N:0,M:0,I:0,K9:0,COUNT:0} strings={C:,S1:,F:,B:,A:,TEXTLONG:,LINE:}\nstep 14: n=0 notes=0 split=0;0,0,0,0,0 trials=3 in=0 out=0 state=running next=3 held=[] numbers={N:0,M:0,I:0,K9:0,COUNT:0} strings={C:,S1:,F:,B:,A:,TEXTLONG:,LINE:}\nstep 15: n=0 notes=0 split=- trials=0 in=0 out=0 state=running next=4 held=[] numbers={N:0,M:0,I:0,K9:0,COUNT:0} strings={C:,S1:,F:,B:,A:,TEXTLONG:,LINE:}\nstep 16: n=0 notes=0 split=0;0,0,0,0,0 trials=3 in=0 out=0 state=running next=3 held=[] numbers={N:0,M:0,I:0,K9:0,COUNT:0} strings={C:,S1:,F:,B:,A:,TEXTLONG:,LINE:}\nstep 17: n=0 notes=0 split=- trials=0 in=0 out=0 state=running next=4 held=[] numbers={N:0,M:0,I:0,K9:0,COUNT:0} strings={C:,S1:,F:,B:,A:,TEXTLONG:,LINE:}\nstep 18: n=0 notes=0 split=0;0,0,0,0,0 trials=3 in=0 out=0 state=running next=3 held=[] numbers={N:0,M:0,I:0,K9:0,COUNT:0} strings={C:,S1:,F:,B:,A:,TEXTLONG:,LINE:}\nstep 19: n=0 notes=0 split=- trials=0 in=0 out=0 state=running next=4 held=[] numbers={N:0,M:0,I:0,K9:0,COUNT:0} strings={C:,S1:,F:,B:,A:,TEXTLONG:,LINE:}\nstep 20: n=0 notes=0 split=0;0,0,0,0,0 trials=3 in=0 out=0 state=running next=3 held=[] numbers={N:0,M:0,I:0,K9:0,COUNT:0} strings={C:,S1:,F:,B:,A:,TEXTLONG:,LINE:}\nstep 21: n=0 notes=0 split=- trials=0 in=0 out=0 state=running next=4 held=[] numbers={N:0,M:0,I:0,K9:0,COUNT:0} strings={C:,S1:,F:,B:,A:,TEXTLONG:,LINE:}\nstep 22: n=0 notes=0 split=0;0,0,0,0,0 trials=3 in=0 out=0 state=running next=3 held=[] numbers={N:0,M:0,I:0,K9:0,COUNT:0} strings={C:,S1:,F:,B:,A:,TEXTLONG:,LINE:}\nstep 23: n=0 notes=0 split=- trials=0 in=0 out=0 state=running next=4 held=[] numbers={N:0,M:0,I:0,K9:0,COUNT:0} strings={C:,S1:,F:,B:,A:,TEXTLONG:,LINE:}\nstep 24: n=0 notes=0 split=0;0,0,0,0,0 trials=3 in=0 out=0 state=running next=3 held=[] numbers={N:0,M:0,I:0,K9:0,COUNT:0} strings={C:,S1:,F:,B:,A:,TEXTLONG:,LINE:}\nstep 25: n=0 notes=0 split=- trials=0 in=0 out=0 state=running next=4 held=[] numbers={N:0,M:0,I:0,K9:0,COUNT:0} strings={C:,S1:,F:,B:,A:,TEXTLONG:,LINE:}\nstep 26: n=0 notes=0 split=0;0,0,0,0,0 trials=3 in=0 out=0 state=running next=3 held=[] numbers={N:0,M:0,I:0,K9:0,COUNT:0} strings={C:,S1:,F:,B:,A:,TEXTLONG:,LINE:}\nstep 27: n=0 notes=0 split=- trials=0 in=0 out=0 state=running next=4 held=[] numbers={N:0,M:0,I:0,K9:0,COUNT:0} strings={C:,S1:,F:,B:,A:,TEXTLONG:,LINE:}\nstep 28: n=0 notes=0 split=0;0,0,0,0,0 trials=3 in=0 out=0 state=running next=3 held=[] numbers={N:0,M:0,I:0,K9:0,COUNT:0} strings={C:,S1:,F:,B:,A:,TEXTLONG:,LINE:}\nstep 29: n=0 notes=0 split=- trials=0 in=0 out=0 state=running next=4 held=[] numbers={N:0,M:0,I:0,K9:0,COUNT:0} strings={C:,S1:,F:,B:,A:,TEXTLONG:,LINE:}\nstep 30: n=0 notes=0 split=0;0,0,0,0,0 trials=3 in=0 out=0 state=running next=3 held=[] numbers={N:0,M:0,I:0,K9:0,COUNT:0} strings={C:,S1:,F:,B:,A:,TEXTLONG:,LINE:}\nstep 31: n=0 notes=0 split=- trials=0 in=0 out=0 state=running next=4 held=[] numbers={N:0,M:0,I:0,K9:0,COUNT:0} strings={C:,S1:,F:,B:,A:,TEXTLONG:,LINE:}\nstep 32: n=0 notes=0 split=0;0,0,0,0,0 trials=3 in=0 out=0 state=running next=3 held=[] numbers={N:0,M:0,I:0,K9:0,COUNT:0} strings={C:,S1:,F:,B:,A:,TEXTLONG:,LINE:}\nstep 33: n=0 notes=0 split=- trials=0 in=0 out=0 state=running next=4 held=[] numbers={N:0,M:0,I:0,K9:0,COUNT:0} strings={C:,S1:,F:,B:,A:,TEXTLONG:,LINE:}\nstep 34: n=0 notes=0 split=0;0,0,0,0,0 trials=3 in=0 out=0 state=running next=3 held=[] numbers={N:0,M:0,I:0,K9:0,COUNT:0} strings={C:,S1:,F:,B:,A:,TEXTLONG:,LINE:}\nstep 35: n=0 notes=0 split=- trials=0 in=0 out=0 state=running next=4 held=[] numbers={N:0,M:0,I:0,K9:0,COUNT:0} strings={C:,S1:,F:,B:,A:,TEXTLONG:,LINE:}\nstep 36: n=0 notes=0 split=0;0,0,0,0,0 trials=3 in=0 out=0 state=running next=3 held=[] numbers={N:0,M:0,I:0,K9:0,COUNT:0} strings={C:,S1:,F:,B:,A:,TEXTLONG:,LINE:}\nstep 37: n=0 notes=0 split=- trials=0 in=0 out=0 state=running next=4 held=[] numbers={N:0,M:0,I:0,K9:0,COUNT:0} strings={C:,S1:,F:,B:,A:,TEXTLONG:,LINE:}\nstep 38: n=0 notes=0 split=0;0,0,0,0,0 trials=3 in=0 out=0 state=running next=3 held=[] numbers={N:0,M:0,I:0,K9:0,COUNT:0} strings={C:,S1:,F:,B:,A:,TEXTLONG:,LINE:}\nstep 39: n=0 notes=0 split=- trials=0 in=0 out=0 state=running next=4 held=[] numbers={N:0,M:0,I:0,K9:0,COUNT:0} strings={C:,S1:,F:,B:,A:,TEXTLONG:,LINE:}\nstep 40: n=0 notes=0 split=0;0,0,0,0,0 trials=3 in=0 out=0 state=running next=3 held=[] numbers={N:0,M:0,I:0,K9:0,COUNT:0} strings={C:,S1:,F:,B:,A:,TEXTLONG:,LINE:}\nstep 41: n=0 notes=0 split=- trials=0 in=0 out=0 state=running next=4 held=[] numbers={N:0,M:0,I:0,K9:0,COUNT:0} strings={C:,S1:,F:,B:,A:,TEXTLONG:,LINE:}\nstep 42: n=0 notes=0 split=0;0,0,0,0,0 trials=3 in=0 out=0 state=running next=3 held=[] numbers={N:0,M:0,I:0,K9:0,COUNT:0} strings={C:,S1:,F:,B:,A:,TEXTLONG:,LINE:}\nstep 43: n=0 notes=0 split=- trials=0 in=0 out=0 state=running next=4 held=[] numbers={N:0,M:0,I:0,K9:0,COUNT:0} strings={C:,S1:,F:,B:,A:,TEXTLONG:,LINE:}\nstep 44: n=0 notes=0 split=0;0,0,0,0,0 trials=3 in=0 out=0 state=running next=3 held=[] numbers={N:0,M:0,I:0,K9:0,COUNT:0} strings={C:,S1:,F:,B:,A:,TEXTLONG:,LINE:}\nstep 45: n=0 notes=0 split=- trials=0 in=0 out=0 state=running next=4 held=[] numbers={N:0,M:0,I:0,K9:0,COUNT:0} strings={C:,S1:,F:,B:,A:,TEXTLONG:,LINE:}\nstep 46: n=0 notes=0 split=0;0,0,0,0,0 trials=3 in=0 out=0 state=running next=3 held=[] numbers={N:0,M:0,I:0,K9:0,COUNT:0} strings={C:,S1:,F:,B:,A:,TEXTLONG:,LINE:}\nstep 47: n=0 notes=0 split=- trials=0 in=0 out=0 state=running next=4 held=[] numbers={N:0,M:0,I:0,K9:0,COUNT:0} strings={C:,S1:,F:,B:,A:,TEXTLONG:,LINE:}\nstep 48: n=0 notes=0 split=0;0,0,0,0,0 trials=3 in=0 out=0 state=running next=3 held=[] numbers={N:0,M:0,I:0,K9:0,COUNT:0} strings={C:,S1:,F:,B:,A:,TEXTLONG:,LINE:}\nstep 49: n=0 notes=0 split=- trials=0 in=0 out=0 state=running next=4 held=[] numbers={N:0,M:0,I:0,K9:0,COUNT:0} strings={C:,S1:,F:,B:,A:,TEXTLONG:,LINE:}\nstep 50: n=0 notes=0 split=0;0,0,0,0,0 trials=3 in=0 out=0 state=running next=3 held=[] numbers={N:0,M:0,I:0,K9:0,COUNT:0} strings={C:,S1:,F:,B:,A:,TEXTLONG:,LINE:}\nstep 51: n=0 notes=0 split=- trials=0 in=0 out=0 state=running next=4 held=[] numbers={N:0,M:0,I:0,K9:0,COUNT:0} strings={C:,S1:,F:,B:,A:,TEXTLONG:,LINE:}\nstep 52: n=0 notes=0 split=0;0,0,0,0,0 trials=3 in=0 out=0 state=running next=3 held=[] numbers={N:0,M:0,I:0,K9:0,COUNT:0} strings={C:,S1:,F:,B:,A:,TEXTLONG:,LINE:}\nstep 53: n=0 notes=0 split=- trials=0 in=0 out=0 state=running next=4 held=[] numbers={N:0,M:0,I:0,K9:0,COUNT:0} strings={C:,S1:,F:,B:,A:,TEXTLONG:,LINE:}\nstep 54: n=0 notes=0 split=0;0,0,0,0,0 trials=3 in=0 out=0 state=running next=3 held=[] numbers={N:0,M:0,I:0,K9:0,COUNT:0} strings={C:,S1:,F:,B:,A:,TEXTLONG:,LINE:}\nstep 55: n=0 notes=0 split=- trials=0 in=0 out=0 state=running next=4 held=[] numbers={N:0,M:0,I:0,K9:0,COUNT:0} strings={C:,S1:,F:,B:,A:,TEXTLONG:,LINE:}\nstep 56: n=0 notes=0 split=0;0,0,0,0,0 trials=3 in=0 out=0 state=running next=3 held=[] numbers={N:0,M:0,I:0,K9:0,COUNT:0} strings={C:,S1:,F:,B:,A:,TEXTLONG:,LINE:}\nstep 57: n=0 notes=0 split=- trials=0 in=0 out=0 state=running next=4 held=[] numbers={N:0,M:0,I:0,K9:0,COUNT:0} strings={C:,S1:,F:,B:,A:,TEXTLONG:,LINE:}\nstep 58: n=0 notes=0 split=0;0,0,0,0,0 trials=3 in=0 out=0 state=running next=3 held=[] numbers={N:0,M:0,I:0,K9:0,COUNT:0} strings={C:,S1:,F:,B:,A:,TEXTLONG:,LINE:}\nstep 59: n=0 notes=0 split=- trials=0 in=0 out=0 state=running next=4 held=[] numbers={N:0,M:0,I:0,K9:0,COUNT:0} strings={C:,S1:,F:,B:,A:,TEXTLONG:,LINE:}\nstep 60: n=0 notes=0 split=0;0,0,0,0,0 trials=3 in=0 out=0 state=running next=3 held=[] numbers={N:0,M:0,I:0,K9:0,COUNT:0} strings={C:,S1:,F:,B:,A:,TEXTLONG:,LINE:}\n" ≡ true
unfolding agrees
v000 = refl

v001 : agrees "         PROGRAM LOTS\n         N UMBE R N,  M                                                 SEQ51701\n         IF (+7=+0)/X9\n         SCAN A[A,(B),(B$0)]=\",,BA,\",\",2 \"\n X9      SCAN A[B,(B)]/,DONE\nL3       B$1=A$ M\n         B=B\n        1BACKS  CAN    A[\"AB\", A,  (  B),STR  ING(I,I),(B  ) ,(B), \"= \"]SEQ04887\n         /L3\n         IF(I=2)/,L1\nDONE     I=LENGTH(B)/M\n* COMMENT 0\n         ROUTINE R1\nL2       A =B$M,\"+\",B,A\nLOOP     EN  DROUTINE \n         N=-LENGTH(A)-I\n         SCAN B [\"BBA2BA2,AA, \",(A),B,(A)  ,(A$I  ),(A),(A)] /  L1,X9\nL1       E ND\n" "1\nA\n0B2 A0A2--02+,+0BB1AA1B+2-1+++2+1BB-0,+A\n11 B0+ 2,-+2-+ ,B,B22A0+ 1,01+,A 1++A+-,\n" "REFUSED 7 8\n" ≡ true
unfolding agrees
v001 = refl

v002 : agrees "         PROGRAM   TE  ST1\n         NUMBER N,M,I,K9,COUNT\n         SC AN A[(B$002)  ]\n         IF(COUNT<0008)/DONE\n        XSCAN A[\"A1ABAAAAA112\",STRING (  N)]=A$6,\"$$\",A$  M,STRING(-9,  \n         N)/  L1,L1\nL2       ROUTINE R1\nX9       I=COUNT * 2  \nL3       B=  A$I                                                        SEQ02117\n        CB=\"00 -1,3/,(\n         -3\",A,\"222\"\n         ENDROUT INE\nDONE     WRITE(61) B$I                                                  SEQ99536\nL1       IF(I<=M  )/,LOO  P  \n         A=\"B\",\"A\",\"A\",A\nLOOP     A$K9=B\n         EXECUTE R1\n         BACKSCAN B[(A$2)]\n         B=\n         IF(COUNT>=6)/LOOP,L2                                           SEQ60782\n         PRINT B,B,A,STRING(K9)\n         END\n" "+ 0- A112A0-\n" "step 1: n=0 notes=0 split=- trials=1 in=0 out=0 state=running next=4 held=[] numbers={N:0,M:0,I:0,K9:0,COUNT:0} strings={A:,B:}\nstep 2: n=0 notes=0 split=- trials=0 in=0 out=0 state=running next=13 held=[] numbers={N:0,M:0,I:0,K9:0,COUNT:0} strings={A:,B:}\nstep 3: n=0 notes=0 split=- trials=0 in=0 out=0 state=running next=14 held=[] numbers={N:0,M:0,I:0,K9:0,COUNT:0} strings={A:,B:}\nstep 4: n=0 notes=0 split=- trials=0 in=0 out=0 state=running next=15 held=[] numbers={N:0,M:0,I:0,K9:0,COUNT:0} strings={A:,B:}\nstep 5: n=0 notes=0 split=- trials=0 in=0 out=0 state=running next=16 held=[] numbers={N:0,M:0,I:0,K9:0,COUNT:0} strings={A:424141,B:}\nstep 6: n=0 notes=0 split=- trials=0 in=0 out=0 state=running next=17 held=[] numbers={N:0,M:0,I:0,K9:0,COUNT:0} strings={A:424141,B:}\nstep 7: n=0 notes=0 split=- trials=0 in=0 out=0 state=running next=8 held=[18] numbers={N:0,M:0,I:0,K9:0,COUNT:0} strings={A:424141,B:}\nstep 8: n=0 notes=0 split=- trials=0 in=0 out=0 state=running next=9 held=[18] numbers={N:0,M:0,I:0,K9:0,COUNT:0} strings={A:424141,B:}\nstep 9: n=0 notes=0 split=- trials=0 in=0 out=0 state=running next=10 held=[18] numbers={N:0,M:0,I:0,K9:0,COUNT:0} strings={A:424141,B:}\nstep 10: n=0 notes=0 split=- trials=0 in=0 out=0 state=running next=12 held=[18] numbers={N:0,M:0,I:0,K9:0,COUNT:0} strings={A:424141,B:3030202d312c332f2c282d33424141323232}\nstep 11: n=0 notes=0 split=- trials=0 in=0 out=0 state=running next=18 held=[] numbers={N:0,M:0,I:0,K9:0,COUNT:0} strings={A:424141,B:3030202d312c332f2c282d33424141323232}\nstep 12: n=0 notes=0 split=0;2 trials=1 in=0 out=0 state=running next=19 held=[] numbers={N:0,M:0,I:0,K9:0,COUNT:0} strings={A:3232,B:3030202d312c332f2c282d33424141323232}\nstep 13: n=0 notes=0 split=- trials=0 in=0 out=0 state=running next=20 held=[] numbers={N:0,M:0,I:0,K9:0,COUNT:0} strings={A:3232,B:}\nstep 14: n=0 notes=0 split=- trials=0 in=0 out=0 state=running next=7 held=[] numbers={N:0,M:0,I:0,K9:0,COUNT:0} strings={A:3232,B:}\nstep 15: n=0 notes=0 split=- trials=0 in=0 out=0 state=running next=13 held=[] numbers={N:0,M:0,I:0,K9:0,COUNT:0} strings={A:3232,B:}\nstep 16: n=0 notes=0 split=- trials=0 in=0 out=0 state=running next=14 held=[] numbers={N:0,M:0,I:0,K9:0,COUNT:0} strings={A:3232,B:}\nstep 17: n=0 notes=0 split=- trials=0 in=0 out=0 state=running next=15 held=[] numbers={N:0,M:0,I:0,K9:0,COUNT:0} strings={A:3232,B:}\nstep 18: n=0 notes=0 split=- trials=0 in=0 out=0 state=running next=16 held=[] numbers={N:0,M:0,I:0,K9:0,COUNT:0} strings={A:4241413232,B:}\nstep 19: n=0 notes=0 split=- trials=0 in=0 out=0 state=running next=17 held=[] numbers={N:0,M:0,I:0,K9:0,COUNT:0} strings={A:4241413232,B:}\nstep 20: n=0 notes=0 split=- trials=0 in=0 out=0 state=running next=8 held=[18] numbers={N:0,M:0,I:0,K9:0,COUNT:0} strings={A:4241413232,B:}\nstep 21: n=0 notes=0 split=- trials=0 in=0 out=0 state=running next=9 held=[18] numbers={N:0,M:0,I:0,K9:0,COUNT:0} strings={A:4241413232,B:}\nstep 22: n=0 notes=0 split=- trials=0 in=0 out=0 state=running next=10 held=[18] numbers={N:0,M:0,I:0,K9:0,COUNT:0} strings={A:4241413232,B:}\nstep 23: n=0 notes=0 split=- trials=0 in=0 out=0 state=running next=12 held=[18] numbers={N:0,M:0,I:0,K9:0,COUNT:0} strings={A:4241413232,B:3030202d312c332f2c282d334241413232323232}\nstep 24: n=0 notes=0 split=- trials=0 in=0 out=0 state=running next=18 held=[] numbers={N:0,M:0,I:0,K9:0,COUNT:0} strings={A:4241413232,B:3030202d312c332f2c282d334241413232323232}\nstep 25: n=0 notes=0 split=0;2 trials=1 in=0 out=0 state=running next=19 held=[] numbers={N:0,M:0,I:0,K9:0,COUNT:0} strings={A:3232,B:3030202d312c332f2c282d334241413232323232}\nstep 26: n=0 notes=0 split=- trials=0 in=0 out=0 state=running next=20 held=[] numbers={N:0,M:0,I:0,K9:0,COUNT:0} strings={A:3232,B:}\nstep 27: n=0 notes=0 split=- trials=0 in=0 out=0 state=running next=7 held=[] numbers={N:0,M:0,I:0,K9:0,COUNT:0} strings={A:3232,B:}\nstep 28: n=0 notes=0 split=- trials=0 in=0 out=0 state=running next=13 held=[] numbers={N:0,M:0,I:0,K9:0,COUNT:0} strings={A:3232,B:}\nstep 29: n=0 notes=0 split=- trials=0 in=0 out=0 state=running next=14 held=[] numbers={N:0,M:0,I:0,K9:0,COUNT:0} strings={A:3232,B:}\nstep 30: n=0 notes=0 split=- trials=0 in=0 out=0 state=running next=15 held=[] numbers={N:0,M:0,I:0,K9:0,COUNT:0} strings={A:3232,B:}\nstep 31: n=0 notes=0 split=- trials=0 in=0 out=0 state=running next=16 held=[] numbers={N:0,M:0,I:0,K9:0,COUNT:0} strings={A:4241413232,B:}\nstep 32: n=0 notes=0 split=- trials=0 in=0 out=0 state=running next=17 held=[] numbers={N:0,M:0,I:0,K9:0,COUNT:0} strings={A:4241413232,B:}\nstep 33: n=0 notes=0 split=- trials=0 in=0 out=0 state=running next=8 held=[18] numbers={N:0,M:0,I:0,K9:0,COUNT:0} strings={A:4241413232,B:}\nstep 34: n=0 notes=0 split=- trials=0 in=0 out=0 state=running next=9 held=[18] numbers={N:0,M:0,I:0,K9:0,COUNT:0} strings={A:4241413232,B:}\nstep 35: n=0 notes=0 split=- trials=0 in=0 out=0 state=running next=10 held=[18] numbers={N:0,M:0,I:0,K9:0,COUNT:0} strings={A:4241413232,B:}\nstep 36: n=0 notes=0 split=- trials=0 in=0 out=0 state=running next=12 held=[18] numbers={N:0,M:0,I:0,K9:0,COUNT:0} strings={A:4241413232,B:3030202d312c332f2c282d334241413232323232}\nstep 37: n=0 notes=0 split=- trials=0 in=0 out=0 state=running next=18 held=[] numbers={N:0,M:0,I:0,K9:0,COUNT:0} strings={A:4241413232,B:3030202d312c332f2c282d334241413232323232}\nstep 38: n=0 notes=0 split=0;2 trials=1 in=0 out=0 state=running next=19 held=[] numbers={N:0,M:0,I:0,K9:0,COUNT:0} strings={A:3232,B:3030202d312c332f2c282d334241413232323232}\nstep 39: n=0 notes=0 split=- trials=0 in=0 out=0 state=running next=20 held=[] numbers={N:0,M:0,I:0,K9:0,COUNT:0} strings={A:3232,B:}\nstep 40: n=0 notes=0 split=- trials=0 in=0 out=0 state=running next=7 held=[] numbers={N:0,M:0,I:0,K9:0,COUNT:0} strings={A:3232,B:}\nstep 41: n=0 notes=0 split=- trials=0 in=0 out=0 state=running next=13 held=[] numbers={N:0,M:0,I:0,K9:0,COUNT:0} strings={A:3232,B:}\nstep 42: n=0 notes=0 split=- trials=0 in=0 out=0 state=running next=14 held=[] numbers={N:0,M:0,I:0,K9:0,COUNT:0} strings={A:3232,B:}\nstep 43: n=0 notes=0 split=- trials=0 in=0 out=0 state=running next=15 held=[] numbers={N:0,M:0,I:0,K9:0,COUNT:0} strings={A:3232,B:}\nstep 44: n=0 notes=0 split=- trials=0 in=0 out=0 state=running next=16 held=[] numbers={N:0,M:0,I:0,K9:0,COUNT:0} strings={A:4241413232,B:}\nstep 45: n=0 notes=0 split=- trials=0 in=0 out=0 state=running next=17 held=[] numbers={N:0,M:0,I:0,K9:0,COUNT:0} strings={A:4241413232,B:}\nstep 46: n=0 notes=0 split=- trials=0 in=0 out=0 state=running next=8 held=[18] numbers={N:0,M:0,I:0,K9:0,COUNT:0} strings={A:4241413232,B:}\nstep 47: n=0 notes=0 split=- trials=0 in=0 out=0 state=running next=9 held=[18] numbers={N:0,M:0,I:0,K9:0,COUNT:0} strings={A:4241413232,B:}\nstep 48: n=0 notes=0 split=- trials=0 in=0 out=0 state=running next=10 held=[18] numbers={N:0,M:0,I:0,K9:0,COUNT:0} strings={A:4241413232,B:}\nstep 49: n=0 notes=0 split=- trials=0 in=0 out=0 state=running next=12 held=[18] numbers={N:0,M:0,I:0,K9:0,COUNT:0} strings={A:4241413232,B:3030202d312c332f2c282d334241413232323232}\nstep 50: n=0 notes=0 split=- trials=0 in=0 out=0 state=running next=18 held=[] numbers={N:0,M:0,I:0,K9:0,COUNT:0} strings={A:4241413232,B:3030202d312c332f2c282d334241413232323232}\nstep 51: n=0 notes=0 split=0;2 trials=1 in=0 out=0 state=running next=19 held=[] numbers={N:0,M:0,I:0,K9:0,COUNT:0} strings={A:3232,B:3030202d312c332f2c282d334241413232323232}\nstep 52: n=0 notes=0 split=- trials=0 in=0 out=0 state=running next=20 held=[] numbers={N:0,M:0,I:0,K9:0,COUNT:0} strings={A:3232,B:}\nstep 53: n=0 notes=0 split=- trials=0 in=0 out=0 state=running next=7 held=[] numbers={N:0,M:0,I:0,K9:0,COUNT:0} strings={A:3232,B:}\nstep 54: n=0 notes=0 split=- trials=0 in=0 out=0 state=running next=13 held=[] numbers={N:0,M:0,I:0,K9:0,COUNT:0} strings={A:3232,B:}\nstep 55: n=0 notes=0 split=- trials=0 in=0 out=0 state=running next=14 held=[] numbers={N:0,M:0,I:0,K9:0,COUNT:0} strings={A:3232,B:}\nstep 56: n=0 notes=0 split=- trials=0 in=0 out=0 state=running next=15 held=[] numbers={N:0,M:0,I:0,K9:0,COUNT:0} strings={A:3232,B:}\nstep 57: n=0 notes=0 split=- trials=0 in=0 out=0 state=running next=16 held=[] numbers={N:0,M:0,I:0,K9:0,COUNT:0} strings={A:4241413232,B:}\nstep 58: n=0 notes=0 split=- trials=0 in=0 out=0 state=running next=17 held=[] numbers={N:0,M:0,I:0,K9:0,COUNT:0} strings={A:4241413232,B:}\nstep 59: n=0 notes=0 split=- trials=0 in=0 out=0 state=running next=8 held=[18] numbers={N:0,M:0,I:0,K9:0,COUNT:0} strings={A:4241413232,B:}\nstep 60: n=0 notes=0 split=- trials=0 in=0 out=0 state=running next=9 held=[18] numbers={N:0,M:0,I:0,K9:0,COUNT:0} strings={A:4241413232,B:}\n" ≡ true
unfolding agrees
v002 = refl

v003 : agrees "         PROG RAM TES T1                                                SEQ67264\n         NUMBER N\nDONE     N=N\nL2       N= N*N \n         GOTO L2\nL3       B=\"\"\",T EXTLONG\n         N=N/N\nX9       SCAN LINE$0  [\"*2BB-=/*13( \",(A) ,  B,(C),L INE$N ]=S1\nLOOP     END\n" "1-A2A AA2A0A\n" "step 1: n=0 notes=0 split=- trials=0 in=0 out=0 state=running next=4 held=[] numbers={N:0} strings={B:,TEXTLONG:,LINE:,A:,C:,S1:}\nstep 2: n=0 notes=0 split=- trials=0 in=0 out=0 state=running next=5 held=[] numbers={N:0} strings={B:,TEXTLONG:,LINE:,A:,C:,S1:}\nstep 3: n=0 notes=0 split=- trials=0 in=0 out=0 state=running next=4 held=[] numbers={N:0} strings={B:,TEXTLONG:,LINE:,A:,C:,S1:}\nstep 4: n=0 notes=0 split=- trials=0 in=0 out=0 state=running next=5 held=[] numbers={N:0} strings={B:,TEXTLONG:,LINE:,A:,C:,S1:}\nstep 5: n=0 notes=0 split=- trials=0 in=0 out=0 state=running next=4 held=[] numbers={N:0} strings={B:,TEXTLONG:,LINE:,A:,C:,S1:}\nstep 6: n=0 notes=0 split=- trials=0 in=0 out=0 state=running next=5 held=[] numbers={N:0} strings={B:,TEXTLONG:,LINE:,A:,C:,S1:}\nstep 7: n=0 notes=0 split=- trials=0 in=0 out=0 state=running next=4 held=[] numbers={N:0} strings={B:,TEXTLONG:,LINE:,A:,C:,S1:}\nstep 8: n=0 notes=0 split=- trials=0 in=0 out=0 state=running next=5 held=[] numbers={N:0} strings={B:,TEXTLONG:,LINE:,A:,C:,S1:}\nstep 9: n=0 notes=0 split=- trials=0 in=0 out=0 state=running next=4 held=[] numbers={N:0} strings={B:,TEXTLONG:,LINE:,A:,C:,S1:}\nstep 10: n=0 notes=0 split=- trials=0 in=0 out=0 state=running next=5 held=[] numbers={N:0} strings={B:,TEXTLONG:,LINE:,A:,C:,S1:}\nstep 11: n=0 notes=0 split=- trials=0 in=0 out=0 state=running next=4 held=[] numbers={N:0} strings={B:,TEXTLONG:,LINE:,A:,C:,S1:}\nstep 12: n=0 notes=0 split=- trials=0 in=0 out=0 state=running next=5 held=[] numbers={N:0} strings={B:,TEXTLONG:,LINE:,A:,C:,S1:}\nstep 13: n=0 notes=0 split=- trials=0 in=0 out=0 state=running next=4 held=[] numbers={N:0} strings={B:,TEXTLONG:,LINE:,A:,C:,S1:}\nstep 14: n=0 notes=0 split=- trials=0 in=0 out=0 state=running next=5 held=[] numbers={N:0} strings={B:,TEXTLONG:,LINE:,A:,C:,S1:}\nstep 15: n=0 notes=0 split=- trials=0 in=0 out=0 state=running next=4 held=[] numbers={N:0} strings={B:,TEXTLONG:,LINE:,A:,C:,S1:}\nstep 16: n=0 notes=0 split=- trials=0 in=0 out=0 state=running next=5 held=[] numbers={N:0} strings={B:,TEXTLONG:,LINE:,A:,C:,S1:}\nstep 17: n=0 notes=0 split=- trials=0 in=0 out=0 state=running next=4 held=[] numbers={N:0} strings={B:,TEXTLONG:,LINE:,A:,C:,S1:}\nstep 18: n=0 notes=0 split=- trials=0 in=0 out=0 state=running next=5 held=[] numbers={N:0} strings={B:,TEXTLONG:,LINE:,A:,C:,S1:}\nstep 19: n=0 notes=0 split=- trials=0 in=0 out=0 state=running next=4 held=[] numbers={N:0} strings={B:,TEXTLONG:,LINE:,A:,C:,S1:}\nstep 20: n=0 notes=0 split=- trials=0 in=0 out=0 state=running next=5 held=[] numbers={N:0} strings={B:,TEXTLONG:,LINE:,A:,C:,S1:}\nstep 21: n=0 notes=0 split=- trials=0 in=0 out=0 state=running next=4 held=[] numbers={N:0} strings={B:,TEXTLONG:,LINE:,A:,C:,S1:}\nstep 22: n=0 notes=0 split=- trials=0 in=0 out=0 state=running next=5 held=[] numbers={N:0} strings={B:,TEXTLONG:,LINE:,A:,C:,S1:}\nstep 23: n=0 notes=0 split=- trials=0 in=0 out=0 state=running next=4 held=[] numbers={N:0} strings={B:,TEXTLONG:,LINE:,A:,C:,S1:}\nstep 24: n=0 notes=0 split=- trials=0 in=0 out=0 state=running next=5 held=[] numbers={N:0} strings={B:,TEXTLONG:,LINE:,A:,C:,S1:}\nstep 25: n=0 notes=0 split=- trials=0 in=0 out=0 state=running next=4 held=[] numbers={N:0} strings={B:,TEXTLONG:,LINE:,A:,C:,S1:}\nstep 26: n=0 notes=0 split=- trials=0 in=0 out=0 state=running next=5 held=[] numbers={N:0} strings={B:,TEXTLONG:,LINE:,A:,C:,S1:}\nstep 27: n=0 notes=0 split=- trials=0 in=0 out=0 state=running next=4 held=[] numbers={N:0} strings={B:,TEXTLONG:,LINE:,A:,C:,S1:}\nstep 28: n=0 notes=0 split=- trials=0 in=0 out=0 state=running next=5 held=[] numbers={N:0} strings={B:,TEXTLONG:,LINE:,A:,C:,S1:}\nstep 29: n=0 notes=0 split=- trials=0 in=0 out=0 state=running next=4 held=[] numbers={N:0} strings={B:,TEXTLONG:,LINE:,A:,C:,S1:}\nstep 30: n=0 notes=0 split=- trials=0 in=0 out=0 state=running next=5 held=[] numbers={N:0} strings={B:,TEXTLONG:,LINE:,A:,C:,S1:}\nstep 31: n=0 notes=0 split=- trials=0 in=0 out=0 state=running next=4 held=[] numbers={N:0} strings={B:,TEXTLONG:,LINE:,A:,C:,S1:}\nstep 32: n=0 notes=0 split=- trials=0 in=0 out=0 state=running next=5 held=[] numbers={N:0} strings={B:,TEXTLONG:,LINE:,A:,C:,S1:}\nstep 33: n=0 notes=0 split=- trials=0 in=0 out=0 state=running next=4 held=[] numbers={N:0} strings={B:,TEXTLONG:,LINE:,A:,C:,S1:}\nstep 34: n=0 notes=0 split=- trials=0 in=0 out=0 state=running next=5 held=[] numbers={N:0} strings={B:,TEXTLONG:,LINE:,A:,C:,S1:}\nstep 35: n=0 notes=0 split=- trials=0 in=0 out=0 state=running next=4 held=[] numbers={N:0} strings={B:,TEXTLONG:,LINE:,A:,C:,S1:}\nstep 36: n=0 notes=0 split=- trials=0 in=0 out=0 state=running next=5 held=[] numbers={N:0} strings={B:,TEXTLONG:,LINE:,A:,C:,S1:}\nstep 37: n=0 notes=0 split=- trials=0 in=0 out=0 state=running next=4 held=[] numbers={N:0} strings={B:,TEXTLONG:,LINE:,A:,C:,S1:}\nstep 38: n=0 notes=0 split=- trials=0 in=0 out=0 state=running next=5 held=[] numbers={N:0} strings={B:,TEXTLONG:,LINE:,A:,C:,S1:}\nstep 39: n=0 notes=0 split=- trials=0 in=0 out=0 state=running next=4 held=[] numbers={N:0} strings={B:,TEXTLONG:,LINE:,A:,C:,S1:}\nstep 40: n=0 notes=0 split=- trials=0 in=0 out=0 state=running next=5 held=[] numbers={N:0} strings={B:,TEXTLONG:,LINE:,A:,C:,S1:}\nstep 41: n=0 notes=0 split=- trials=0 in=0 out=0 state=running next=4 held=[] numbers={N:0} strings={B:,TEXTLONG:,LINE:,A:,C:,S1:}\nstep 42: n=0 notes=0 split=- trials=0 in=0 out=0 state=running next=5 held=[] numbers={N:0} strings={B:,TEXTLONG:,LINE:,A:,C:,S1:}\nstep 43: n=0 notes=0 split=- trials=0 in=0 out=0 state=running next=4 held=[] numbers={N:0} strings={B:,TEXTLONG:,LINE:,A:,C:,S1:}\nstep 44: n=0 notes=0 split=- trials=0 in=0 out=0 state=running next=5 held=[] numbers={N:0} strings={B:,TEXTLONG:,LINE:,A:,C:,S1:}\nstep 45: n=0 notes=0 split=- trials=0 in=0 out=0 state=running next=4 held=[] numbers={N:0} strings={B:,TEXTLONG:,LINE:,A:,C:,S1:}\nstep 46: n=0 notes=0 split=- trials=0 in=0 out=0 state=running next=5 held=[] numbers={N:0} strings={B:,TEXTLONG:,LINE:,A:,C:,S1:}\nstep 47: n=0 notes=0 split=- trials=0 in=0 out=0 state=running next=4 held=[] numbers={N:0} strings={B:,TEXTLONG:,LINE:,A:,C:,S1:}\nstep 48: n=0 notes=0 split=- trials=0 in=0 out=0 state=running next=5 held=[] numbers={N:0} strings={B:,TEXTLONG:,LINE:,A:,C:,S1:}\nstep 49: n=0 notes=0 split=- trials=0 in=0 out=0 state=running next=4 held=[] numbers={N:0} strings={B:,TEXTLONG:,LINE:,A:,C:,S1:}\nstep 50: n=0 notes=0 split=- trials=0 in=0 out=0 state=running next=5 held=[] numbers={N:0} strings={B:,TEXTLONG:,LINE:,A:,C:,S1:}\nstep 51: n=0 notes=0 split=- trials=0 in=0 out=0 state=running next=4 held=[] numbers={N:0} strings={B:,TEXTLONG:,LINE:,A:,C:,S1:}\nstep 52: n=0 notes=0 split=- trials=0 in=0 out=0 state=running next=5 held=[] numbers={N:0} strings={B:,TEXTLONG:,LINE:,A:,C:,S1:}\nstep 53: n=0 notes=0 split=- trials=0 in=0 out=0 state=running next=4 held=[] numbers={N:0} strings={B:,TEXTLONG:,LINE:,A:,C:,S1:}\nstep 54: n=0 notes=0 split=- trials=0 in=0 out=0 state=running next=5 held=[] numbers={N:0} strings={B:,TEXTLONG:,LINE:,A:,C:,S1:}\nstep 55: n=0 notes=0 split=- trials=0 in=0 out=0 state=running next=4 held=[] numbers={N:0} strings={B:,TEXTLONG:,LINE:,A:,C:,S1:}\nstep 56: n=0 notes=0 split=- trials=0 in=0 out=0 state=running next=5 held=[] numbers={N:0} strings={B:,TEXTLONG:,LINE:,A:,C:,S1:}\nstep 57: n=0 notes=0 split=- trials=0 in=0 out=0 state=running next=4 held=[] numbers={N:0} strings={B:,TEXTLONG:,LINE:,A:,C:,S1:}\nstep 58: n=0 notes=0 split=- trials=0 in=0 out=0 state=running next=5 held=[] numbers={N:0} strings={B:,TEXTLONG:,LINE:,A:,C:,S1:}\nstep 59: n=0 notes=0 split=- trials=0 in=0 out=0 state=running next=4 held=[] numbers={N:0} strings={B:,TEXTLONG:,LINE:,A:,C:,S1:}\nstep 60: n=0 notes=0 split=- trials=0 in=0 out=0 state=running next=5 held=[] numbers={N:0} strings={B:,TEXTLONG:,LINE:,A:,C:,S1:}\n" ≡ true
unfolding agrees
v003 = refl

v004 : agrees "         PR O  G RAM L OTS  \n         NUM BER N\n L3      B=B$ 2  ,B,A\n* COMMENT 2\nL1       B=A$0000                                                       SEQ37054\nX9       A=A,STRING(0,N)                                                SEQ70149\nLOOP     B=\"A \",ST RING(3,N) \nL2       WRITE B,B$N,B$6,B\nDONE     END\n" "" "step 1: n=0 notes=0 split=- trials=0 in=0 out=0 state=running next=5 held=[] numbers={N:0} strings={B:,A:}\nstep 2: n=0 notes=0 split=- trials=0 in=0 out=0 state=running next=6 held=[] numbers={N:0} strings={B:,A:}\nstep 3: n=0 notes=0 split=- trials=0 in=0 out=0 state=running next=7 held=[] numbers={N:0} strings={B:,A:30}\nstep 4: n=0 notes=0 split=- trials=0 in=0 out=0 state=running next=8 held=[] numbers={N:0} strings={B:4120303030,A:30}\nstep 5: n=0 notes=0 split=- trials=0 in=0 out=16 state=running next=9 held=[] numbers={N:0} strings={B:4120303030,A:30}\nstep 6: n=0 notes=0 split=- trials=0 in=0 out=16 state=finished next=9 held=[] numbers={N:0} strings={B:4120303030,A:30}\n" ≡ true
unfolding agrees
v004 = refl

v005 : agrees "         PROGRAM LOTS\n         NUMBER N,M\nL1       READ B/L3,DONE\nDONE     SCAN C$5[(B$M),(A)]=STRING(M)/L3,L3\nL2       GO TO L3\n L3      ROUTI NE   R1\nX9       A=C\nLOOP     ENDROUTINE\n\n         END\n" "121-, A0+  -2 011B,B,210+-10BAA12AABAA  \n2+,22 222-B2A01AA-2, 0A1+- A +A1A-BBA AB\nAA,1A0-AA2+211B1+0-21A0,A2,1-1+---A2 B0A\nBA+A2+\n" "step 1: n=0 notes=0 split=- trials=0 in=41 out=0 state=running next=6 held=[] numbers={N:0,M:0} strings={B:3132312d2c2041302b20202d3220303131422c422c3231302b2d3130424141313241414241412020,C:,A:}\nstep 2: n=0 notes=0 split=- trials=0 in=41 out=0 state=running next=10 held=[] numbers={N:0,M:0} strings={B:3132312d2c2041302b20202d3220303131422c422c3231302b2d3130424141313241414241412020,C:,A:}\nstep 3: n=0 notes=0 split=- trials=0 in=41 out=0 state=finished next=10 held=[] numbers={N:0,M:0} strings={B:3132312d2c2041302b20202d3220303131422c422c3231302b2d3130424141313241414241412020,C:,A:}\n" ≡ true
unfolding agrees
v005 = refl

v006 : agrees "         P  ROGRAM P\n         N  UMBER   N,M,I\n         ROUTIN  E R2\n         I=( 3 )\n         F=STRING(2,N)\n         EXIT                                                           SEQ02226\n LOOP   XSCAN C[B,STRING\n        X(-7,N),STRING(M                                                SEQ04119\n         ,I)]/LOOP\n         ENDROUTINE\nX9       B=\")B\",STRING  (I,I),  B$I \n   \n         WRITE(61) C,S1                                                 SEQ02102\n         I=(-3301)/(1317021*348)\n         M=145/N-2+M+(I)-0007/N\n* COMMENT 4\n         N=LENGTH(F)-LENGTH(LINE)+LENGTH(G)\n         LINE=  \"A\",TEXTLO NG\n         IF(M=LENGTH(A))/,DONE\n        1N=N  -1-  N /00033  +I-(LE NGTH(S1 ))/(LENG  TH(A)) / ((M)-  I)\n                                                                        SEQ12163\nL2       READ LINE/L1\nL1       ROUTINE R1\n         S  1=LINE $6,STR ING(M,I),STRING(0,M),A  $I\n                                                                        SEQ\n         F$  I=\"A,2\"\nL3       SCA  N L  INE[(A)]=\"$\",LINE$  3/L3,L3\n         SC AN TE  XTL  O  NG[ (C),\"11\"]/L 3\n         ENDROUTINE\nDONE     END" "A0B\n11AA+2B AA -\n\nBB-\nBA-  AA-B+,A+2 01AB0,BA0++ A  1A222,AA  \n 21,,0\n\n,2,0+1,11AA 0 2B BA+AA11B2 --A-A21-A2 +2\nAAAAAAAAAAAAAAAAAAAAAAAAAAAAAAAAAAAAAAAAAAAAAAAAAAAAAAAAAAAAAAAAAAAAAAAAAAAAAAAAAAAAAAAAAAAAAAAAAAAAAAAAAAAAAAAAAAAAAAAAAAAAAAAAAAAAAAAAAAAAAAAAAAAAAAAAAAAAAAAAAAAAAAAAAAAAAAAAAAAAAAAAAAAAAAAAAAAAAAAAAAAAAAAAAAAAAAAAAAAAAAAAAAAAAAAAAAAAAAAAAAAAAAAAAAAAAAAAAAAAAAAAAAAAAAAAAAAAAAAAAAAAAAAAAAAAAAAAAAAAAAAAAAAAAAAAAAAAAAAAAAAAAAAAAAAAAAAAAAAAAAAAAAAAAAAAAAAAAAAAAAAAAAAAAAAAAAAAAAAAAAAAAAAAAAAAAAAAAAAAAAAAAAAAAAAAAAAAAAAAAAAAAAAAAAAAAAAAAAAAAAAAAAAAAAAAAAAAAAAAAAAAAAAAAAAAAAAAAAAAAAAAAAAAAAAAAAAAAAAAAAAAAAAAAAAAAAAAAAAAAAAAAAAAAAAAAAAAAAAAAAAAAAAAAAAAAAAAAAAAAAAAAAAAAAAAAAAAAAAAAAAAAAAAAAAAAAAAAAAAAAAAAAAAAAAAAAAAAAAAAAAAAAAAAAAAAAAAAAAAAAAAAAAAAAAAAAAAAAAAAAAAAAAAAAAAAAAAAAAAAAAAAAAAAAAAAAAAAAAAAAAAAAAAAAAAAAAAAAAAAAAAAAAAAAAAAAAAAAAAAAAAAAAAAAAAAAAAAAAAAAAAAAAAAAAAAAAAAAAAAAAAAAAAAAAAAAAAAAAAAAAAAAAAAAAAAAAAAAAAAAAAAAAAAAAAAAAAAAAAAAAAAAAAAAAAAAAAAAAAAAAAAAAAAAAAAAAAAAAAAAAAAAAAAAAAAAAAAAAAAAAAAAAAAAAAAAAAAAAAAAAAAAAAAAAAAAAAAAAAAAAAAAAAAAAAAAAAAAAAAAAAAAAAAAAAAAAAAAAAAAAAAAAAAAAAAAAAAAAAAAAAAAAAAAAAAAAAAAAAAAAAAAAAAAAAAAA\n" "REFUSED 3 20\n" ≡ true
unfolding agrees
v006 = refl

v007 : agrees "         PROGRA  M LOTS\n         NUMBER N\nX9       S CAN TEXTLONG$8[(A$3),F$4,\"A\",(  F),(S1)]=\" 1(*(\",F$0,  \",A\"\n         A=LINE,S  TRIN  G(N)\n        XSCAN S1$8[TEXTL\n        XONG,(B$N),STRIN\n        XG(N),(A),(B),ST\n        XRING(N),STRING(\n         -003,N)]\n         EXECUTE R1                                                     SEQ59247\n         LINE$N=\"AB2\",B,TEXTLONG\n         PRINT \"-\",STRING(N)\nL3       TEXTLONG=\"1\"\n         B $0=A,\"A A1A1A11112\"\n         ROUTIN E  R2                                                   SEQ81104\n         IF(NULL(A))/L2\n                                                                        SEQ\nL2       GOTO L2\n         ENDR  OU  T  INE\n L1      EXECUTE  R1\n         S1$N=\"B,BB A22 1AA\"\n         R  OUTINE    R1\nDONE     C=\nLOOP     ENDROUTINE                                                     SEQ62537\n         SCAN C[(S1),B,(LINE),(F$0),C]=F$N/,X9\n         IF(N<>LENGTH(C))/X9\n         READ  B$4 /X9,L3\n         END\n" "0++11 \n0+A2A,+A20AB- 0+AA,,A1--,1+21AA--1-12B- \nBB BA+, 10 -\n2A-,1+" "step 1: n=0 notes=0 split=- trials=1 in=0 out=0 state=running next=4 held=[] numbers={N:0} strings={TEXTLONG:,A:,F:,S1:,LINE:,B:,C:}\nstep 2: n=0 notes=0 split=- trials=0 in=0 out=0 state=running next=5 held=[] numbers={N:0} strings={TEXTLONG:,A:30,F:,S1:,LINE:,B:,C:}\nstep 3: n=0 notes=0 split=- trials=3 in=0 out=0 state=running next=10 held=[] numbers={N:0} strings={TEXTLONG:,A:,F:,S1:,LINE:,B:,C:}\nstep 4: n=0 notes=0 split=- trials=0 in=0 out=0 state=running next=23 held=[11] numbers={N:0} strings={TEXTLONG:,A:,F:,S1:,LINE:,B:,C:}\nstep 5: n=0 notes=0 split=- trials=0 in=0 out=0 state=running next=24 held=[11] numbers={N:0} strings={TEXTLONG:,A:,F:,S1:,LINE:,B:,C:}\nstep 6: n=0 notes=0 split=- trials=0 in=0 out=0 state=running next=11 held=[] numbers={N:0} strings={TEXTLONG:,A:,F:,S1:,LINE:,B:,C:}\nstep 7: n=0 notes=0 split=- trials=0 in=0 out=0 state=running next=12 held=[] numbers={N:0} strings={TEXTLONG:,A:,F:,S1:,LINE:414232,B:,C:}\nstep 8: n=0 notes=0 split=- trials=0 in=0 out=3 state=running next=13 held=[] numbers={N:0} strings={TEXTLONG:,A:,F:,S1:,LINE:414232,B:,C:}\nstep 9: n=0 notes=0 split=- trials=0 in=0 out=3 state=running next=14 held=[] numbers={N:0} strings={TEXTLONG:31,A:,F:,S1:,LINE:414232,B:,C:}\nstep 10: n=0 notes=0 split=- trials=0 in=0 out=3 state=running next=15 held=[] numbers={N:0} strings={TEXTLONG:31,A:,F:,S1:,LINE:414232,B:412041314131413131313132,C:}\nstep 11: n=0 notes=0 split=- trials=0 in=0 out=3 state=running next=20 held=[] numbers={N:0} strings={TEXTLONG:31,A:,F:,S1:,LINE:414232,B:412041314131413131313132,C:}\nstep 12: n=0 notes=0 split=- trials=0 in=0 out=3 state=running next=23 held=[21] numbers={N:0} strings={TEXTLONG:31,A:,F:,S1:,LINE:414232,B:412041314131413131313132,C:}\nstep 13: n=0 notes=0 split=- trials=0 in=0 out=3 state=running next=24 held=[21] numbers={N:0} strings={TEXTLONG:31,A:,F:,S1:,LINE:414232,B:412041314131413131313132,C:}\nstep 14: n=0 notes=0 split=- trials=0 in=0 out=3 state=running next=21 held=[] numbers={N:0} strings={TEXTLONG:31,A:,F:,S1:,LINE:414232,B:412041314131413131313132,C:}\nstep 15: n=0 notes=0 split=- trials=0 in=0 out=3 state=running next=22 held=[] numbers={N:0} strings={TEXTLONG:31,A:,F:,S1:422c42422041323220314141,LINE:414232,B:412041314131413131313132,C:}\nstep 16: n=0 notes=0 split=- trials=0 in=0 out=3 state=running next=25 held=[] numbers={N:0} strings={TEXTLONG:31,A:,F:,S1:422c42422041323220314141,LINE:414232,B:412041314131413131313132,C:}\nstep 17: n=0 notes=0 split=- trials=1 in=0 out=3 state=running next=3 held=[] numbers={N:0} strings={TEXTLONG:31,A:,F:,S1:,LINE:,B:412041314131413131313132,C:}\nstep 18: n=0 notes=0 split=- trials=1 in=0 out=3 state=running next=4 held=[] numbers={N:0} strings={TEXTLONG:31,A:,F:,S1:,LINE:,B:412041314131413131313132,C:}\nstep 19: n=0 notes=0 split=- trials=0 in=0 out=3 state=running next=5 held=[] numbers={N:0} strings={TEXTLONG:31,A:30,F:,S1:,LINE:,B:412041314131413131313132,C:}\nstep 20: n=0 notes=0 split=- trials=1 in=0 out=3 state=running next=10 held=[] numbers={N:0} strings={TEXTLONG:31,A:,F:,S1:,LINE:,B:,C:}\nstep 21: n=0 notes=0 split=- trials=0 in=0 out=3 state=running next=23 held=[11] numbers={N:0} strings={TEXTLONG:31,A:,F:,S1:,LINE:,B:,C:}\nstep 22: n=0 notes=0 split=- trials=0 in=0 out=3 state=running next=24 held=[11] numbers={N:0} strings={TEXTLONG:31,A:,F:,S1:,LINE:,B:,C:}\nstep 23: n=0 notes=0 split=- trials=0 in=0 out=3 state=running next=11 held=[] numbers={N:0} strings={TEXTLONG:31,A:,F:,S1:,LINE:,B:,C:}\nstep 24: n=0 notes=0 split=- trials=0 in=0 out=3 state=running next=12 held=[] numbers={N:0} strings={TEXTLONG:31,A:,F:,S1:,LINE:41423231,B:,C:}\nstep 25: n=0 notes=0 split=- trials=0 in=0 out=6 state=running next=13 held=[] numbers={N:0} strings={TEXTLONG:31,A:,F:,S1:,LINE:41423231,B:,C:}\nstep 26: n=0 notes=0 split=- trials=0 in=0 out=6 state=running next=14 held=[] numbers={N:0} strings={TEXTLONG:31,A:,F:,S1:,LINE:41423231,B:,C:}\nstep 27: n=0 notes=0 split=- trials=0 in=0 out=6 state=running next=15 held=[] numbers={N:0} strings={TEXTLONG:31,A:,F:,S1:,LINE:41423231,B:412041314131413131313132,C:}\nstep 28: n=0 notes=0 split=- trials=0 in=0 out=6 state=running next=20 held=[] numbers={N:0} strings={TEXTLONG:31,A:,F:,S1:,LINE:41423231,B:412041314131413131313132,C:}\nstep 29: n=0 notes=0 split=- trials=0 in=0 out=6 state=running next=23 held=[21] numbers={N:0} strings={TEXTLONG:31,A:,F:,S1:,LINE:41423231,B:412041314131413131313132,C:}\nstep 30: n=0 notes=0 split=- trials=0 in=0 out=6 state=running next=24 held=[21] numbers={N:0} strings={TEXTLONG:31,A:,F:,S1:,LINE:41423231,B:412041314131413131313132,C:}\nstep 31: n=0 notes=0 split=- trials=0 in=0 out=6 state=running next=21 held=[] numbers={N:0} strings={TEXTLONG:31,A:,F:,S1:,LINE:41423231,B:412041314131413131313132,C:}\nstep 32: n=0 notes=0 split=- trials=0 in=0 out=6 state=running next=22 held=[] numbers={N:0} strings={TEXTLONG:31,A:,F:,S1:422c42422041323220314141,LINE:41423231,B:412041314131413131313132,C:}\nstep 33: n=0 notes=0 split=- trials=0 in=0 out=6 state=running next=25 held=[] numbers={N:0} strings={TEXTLONG:31,A:,F:,S1:422c42422041323220314141,LINE:41423231,B:412041314131413131313132,C:}\nstep 34: n=0 notes=0 split=- trials=1 in=0 out=6 state=running next=3 held=[] numbers={N:0} strings={TEXTLONG:31,A:,F:,S1:,LINE:,B:412041314131413131313132,C:}\nstep 35: n=0 notes=0 split=- trials=1 in=0 out=6 state=running next=4 held=[] numbers={N:0} strings={TEXTLONG:31,A:,F:,S1:,LINE:,B:412041314131413131313132,C:}\nstep 36: n=0 notes=0 split=- trials=0 in=0 out=6 state=running next=5 held=[] numbers={N:0} strings={TEXTLONG:31,A:30,F:,S1:,LINE:,B:412041314131413131313132,C:}\nstep 37: n=0 notes=0 split=- trials=1 in=0 out=6 state=running next=10 held=[] numbers={N:0} strings={TEXTLONG:31,A:,F:,S1:,LINE:,B:,C:}\nstep 38: n=0 notes=0 split=- trials=0 in=0 out=6 state=running next=23 held=[11] numbers={N:0} strings={TEXTLONG:31,A:,F:,S1:,LINE:,B:,C:}\nstep 39: n=0 notes=0 split=- trials=0 in=0 out=6 state=running next=24 held=[11] numbers={N:0} strings={TEXTLONG:31,A:,F:,S1:,LINE:,B:,C:}\nstep 40: n=0 notes=0 split=- trials=0 in=0 out=6 state=running next=11 held=[] numbers={N:0} strings={TEXTLONG:31,A:,F:,S1:,LINE:,B:,C:}\nstep 41: n=0 notes=0 split=- trials=0 in=0 out=6 state=running next=12 held=[] numbers={N:0} strings={TEXTLONG:31,A:,F:,S1:,LINE:41423231,B:,C:}\nstep 42: n=0 notes=0 split=- trials=0 in=0 out=9 state=running next=13 held=[] numbers={N:0} strings={TEXTLONG:31,A:,F:,S1:,LINE:41423231,B:,C:}\nstep 43: n=0 notes=0 split=- trials=0 in=0 out=9 state=running next=14 held=[] numbers={N:0} strings={TEXTLONG:31,A:,F:,S1:,LINE:41423231,B:,C:}\nstep 44: n=0 notes=0 split=- trials=0 in=0 out=9 state=running next=15 held=[] numbers={N:0} strings={TEXTLONG:31,A:,F:,S1:,LINE:41423231,B:412041314131413131313132,C:}\nstep 45: n=0 notes=0 split=- trials=0 in=0 out=9 state=running next=20 held=[] numbers={N:0} strings={TEXTLONG:31,A:,F:,S1:,LINE:41423231,B:412041314131413131313132,C:}\nstep 46: n=0 notes=0 split=- trials=0 in=0 out=9 state=running next=23 held=[21] numbers={N:0} strings={TEXTLONG:31,A:,F:,S1:,LINE:41423231,B:412041314131413131313132,C:}\nstep 47: n=0 notes=0 split=- trials=0 in=0 out=9 state=running next=24 held=[21] numbers={N:0} strings={TEXTLONG:31,A:,F:,S1:,LINE:41423231,B:412041314131413131313132,C:}\nstep 48: n=0 notes=0 split=- trials=0 in=0 out=9 state=running next=21 held=[] numbers={N:0} strings={TEXTLONG:31,A:,F:,S1:,LINE:41423231,B:412041314131413131313132,C:}\nstep 49: n=0 notes=0 split=- trials=0 in=0 out=9 state=running next=22 held=[] numbers={N:0} strings={TEXTLONG:31,A:,F:,S1:422c42422041323220314141,LINE:41423231,B:412041314131413131313132,C:}\nstep 50: n=0 notes=0 split=- trials=0 in=0 out=9 state=running next=25 held=[] numbers={N:0} strings={TEXTLONG:31,A:,F:,S1:422c42422041323220314141,LINE:41423231,B:412041314131413131313132,C:}\nstep 51: n=0 notes=0 split=- trials=1 in=0 out=9 state=running next=3 held=[] numbers={N:0} strings={TEXTLONG:31,A:,F:,S1:,LINE:,B:412041314131413131313132,C:}\nstep 52: n=0 notes=0 split=- trials=1 in=0 out=9 state=running next=4 held=[] numbers={N:0} strings={TEXTLONG:31,A:,F:,S1:,LINE:,B:412041314131413131313132,C:}\nstep 53: n=0 notes=0 split=- trials=0 in=0 out=9 state=running next=5 held=[] numbers={N:0} strings={TEXTLONG:31,A:30,F:,S1:,LINE:,B:412041314131413131313132,C:}\nstep 54: n=0 notes=0 split=- trials=1 in=0 out=9 state=running next=10 held=[] numbers={N:0} strings={TEXTLONG:31,A:,F:,S1:,LINE:,B:,C:}\nstep 55: n=0 notes=0 split=- trials=0 in=0 out=9 state=running next=23 held=[11] numbers={N:0} strings={TEXTLONG:31,A:,F:,S1:,LINE:,B:,C:}\nstep 56: n=0 notes=0 split=- trials=0 in=0 out=9 state=running next=24 held=[11] numbers={N:0} strings={TEXTLONG:31,A:,F:,S1:,LINE:,B:,C:}\nstep 57: n=0 notes=0 split=- trials=0 in=0 out=9 state=running next=11 held=[] numbers={N:0} strings={TEXTLONG:31,A:,F:,S1:,LINE:,B:,C:}\nstep 58: n=0 notes=0 split=- trials=0 in=0 out=9 state=running next=12 held=[] numbers={N:0} strings={TEXTLONG:31,A:,F:,S1:,LINE:41423231,B:,C:}\nstep 59: n=0 notes=0 split=- trials=0 in=0 out=12 state=running next=13 held=[] numbers={N:0} strings={TEXTLONG:31,A:,F:,S1:,LINE:41423231,B:,C:}\nstep 60: n=0 notes=0 split=- trials=0 in=0 out=12 state=running next=14 held=[] numbers={N:0} strings={TEXTLONG:31,A:,F:,S1:,LINE:41423231,B:,C:}\n" ≡ true
unfolding agrees
v007 = refl

v008 : agrees "         PROGRAM LOTS\n         NUM  BER N\n         PRINT(61) A$0,STRING(N)\n         PRIN  T\nDONE     READ B$N/X9\nL3       WRITE(61) \"1AAB1B BAABA\"\n L1      B=C\nX9       IF(7<=-1)/,X9\n LOOP    PRINT \"BA\"\n L2      END                                                            SEQ81153\n" "A0+,0 B,AA,A  1+A1A1B,1-0-2+2AA1+-A,+0 A\n\n+- \n21,+AB\n00A11ABB10 ,,A1- 0,+ 0--+,2-+1,BB,A ABAB\n- 1  A1A2,A22+,02B0B+2B-A2A01-+-12 1AB+,\nA\n- ,\n" "step 1: n=0 notes=0 split=- trials=0 in=0 out=2 state=running next=4 held=[] numbers={N:0} strings={A:,B:,C:}\nstep 2: n=0 notes=0 split=- trials=0 in=0 out=2 state=running next=5 held=[] numbers={N:0} strings={A:,B:,C:}\nstep 3: n=0 notes=0 split=- trials=0 in=0 out=2 state=running next=6 held=[] numbers={N:0} strings={A:,B:,C:}\nstep 4: n=0 notes=0 split=- trials=0 in=0 out=15 state=running next=7 held=[] numbers={N:0} strings={A:,B:,C:}\nstep 5: n=0 notes=0 split=- trials=0 in=0 out=15 state=running next=8 held=[] numbers={N:0} strings={A:,B:,C:}\nstep 6: n=0 notes=0 split=- trials=0 in=0 out=15 state=running next=8 held=[] numbers={N:0} strings={A:,B:,C:}\nstep 7: n=0 notes=0 split=- trials=0 in=0 out=15 state=running next=8 held=[] numbers={N:0} strings={A:,B:,C:}\nstep 8: n=0 notes=0 split=- trials=0 in=0 out=15 state=running next=8 held=[] numbers={N:0} strings={A:,B:,C:}\nstep 9: n=0 notes=0 split=- trials=0 in=0 out=15 state=running next=8 held=[] numbers={N:0} strings={A:,B:,C:}\nstep 10: n=0 notes=0 split=- trials=0 in=0 out=15 state=running next=8 held=[] numbers={N:0} strings={A:,B:,C:}\nstep 11: n=0 notes=0 split=- trials=0 in=0 out=15 state=running next=8 held=[] numbers={N:0} strings={A:,B:,C:}\nstep 12: n=0 notes=0 split=- trials=0 in=0 out=15 state=running next=8 held=[] numbers={N:0} strings={A:,B:,C:}\nstep 13: n=0 notes=0 split=- trials=0 in=0 out=15 state=running next=8 held=[] numbers={N:0} strings={A:,B:,C:}\nstep 14: n=0 notes=0 split=- trials=0 in=0 out=15 state=running next=8 held=[] numbers={N:0} strings={A:,B:,C:}\nstep 15: n=0 notes=0 split=- trials=0 in=0 out=15 state=running next=8 held=[] numbers={N:0} strings={A:,B:,C:}\nstep 16: n=0 notes=0 split=- trials=0 in=0 out=15 state=running next=8 held=[] numbers={N:0} strings={A:,B:,C:}\nstep 17: n=0 notes=0 split=- trials=0 in=0 out=15 state=running next=8 held=[] numbers={N:0} strings={A:,B:,C:}\nstep 18: n=0 notes=0 split=- trials=0 in=0 out=15 state=running next=8 held=[] numbers={N:0} strings={A:,B:,C:}\nstep 19: n=0 notes=0 split=- trials=0 in=0 out=15 state=running next=8 held=[] numbers={N:0} strings={A:,B:,C:}\nstep 20: n=0 notes=0 split=- trials=0 in=0 out=15 state=running next=8 held=[] numbers={N:0} strings={A:,B:,C:}\nstep 21: n=0 notes=0 split=- trials=0 in=0 out=15 state=running next=8 held=[] numbers={N:0} strings={A:,B:,C:}\nstep 22: n=0 notes=0 split=- trials=0 in=0 out=15 state=running next=8 held=[] numbers={N:0} strings={A:,B:,C:}\nstep 23: n=0 notes=0 split=- trials=0 in=0 out=15 state=running next=8 held=[] numbers={N:0} strings={A:,B:,C:}\nstep 24: n=0 notes=0 split=- trials=0 in=0 out=15 state=running next=8 held=[] numbers={N:0} strings={A:,B:,C:}\nstep 25: n=0 notes=0 split=- trials=0 in=0 out=15 state=running next=8 held=[] numbers={N:0} strings={A:,B:,C:}\nstep 26: n=0 notes=0 split=- trials=0 in=0 out=15 state=running next=8 held=[] numbers={N:0} strings={A:,B:,C:}\nstep 27: n=0 notes=0 split=- trials=0 in=0 out=15 state=running next=8 held=[] numbers={N:0} strings={A:,B:,C:}\nstep 28: n=0 notes=0 split=- trials=0 in=0 out=15 state=running next=8 held=[] numbers={N:0} strings={A:,B:,C:}\nstep 29: n=0 notes=0 split=- trials=0 in=0 out=15 state=running next=8 held=[] numbers={N:0} strings={A:,B:,C:}\nstep 30: n=0 notes=0 split=- trials=0 in=0 out=15 state=running next=8 held=[] numbers={N:0} strings={A:,B:,C:}\nstep 31: n=0 notes=0 split=- trials=0 in=0 out=15 state=running next=8 held=[] numbers={N:0} strings={A:,B:,C:}\nstep 32: n=0 notes=0 split=- trials=0 in=0 out=15 state=running next=8 held=[] numbers={N:0} strings={A:,B:,C:}\nstep 33: n=0 notes=0 split=- trials=0 in=0 out=15 state=running next=8 held=[] numbers={N:0} strings={A:,B:,C:}\nstep 34: n=0 notes=0 split=- trials=0 in=0 out=15 state=running next=8 held=[] numbers={N:0} strings={A:,B:,C:}\nstep 35: n=0 notes=0 split=- trials=0 in=0 out=15 state=running next=8 held=[] numbers={N:0} strings={A:,B:,C:}\nstep 36: n=0 notes=0 split=- trials=0 in=0 out=15 state=running next=8 held=[] numbers={N:0} strings={A:,B:,C:}\nstep 37: n=0 notes=0 split=- trials=0 in=0 out=15 state=running next=8 held=[] numbers={N:0} strings={A:,B:,C:}\nstep 38: n=0 notes=0 split=- trials=0 in=0 out=15 state=running next=8 held=[] numbers={N:0} strings={A:,B:,C:}\nstep 39: n=0 notes=0 split=- trials=0 in=0 out=15 state=running next=8 held=[] numbers={N:0} strings={A:,B:,C:}\nstep 40: n=0 notes=0 split=- trials=0 in=0 out=15 state=running next=8 held=[] numbers={N:0} strings={A:,B:,C:}\nstep 41: n=0 notes=0 split=- trials=0 in=0 out=15 state=running next=8 held=[] numbers={N:0} strings={A:,B:,C:}\nstep 42: n=0 notes=0 split=- trials=0 in=0 out=15 state=running next=8 held=[] numbers={N:0} strings={A:,B:,C:}\nstep 43: n=0 notes=0 split=- trials=0 in=0 out=15 state=running next=8 held=[] numbers={N:0} strings={A:,B:,C:}\nstep 44: n=0 notes=0 split=- trials=0 in=0 out=15 state=running next=8 held=[] numbers={N:0} strings={A:,B:,C:}\nstep 45: n=0 notes=0 split=- trials=0 in=0 out=15 state=running next=8 held=[] numbers={N:0} strings={A:,B:,C:}\nstep 46: n=0 notes=0 split=- trials=0 in=0 out=15 state=running next=8 held=[] numbers={N:0} strings={A:,B:,C:}\nstep 47: n=0 notes=0 split=- trials=0 in=0 out=15 state=running next=8 held=[] numbers={N:0} strings={A:,B:,C:}\nstep 48: n=0 notes=0 split=- trials=0 in=0 out=15 state=running next=8 held=[] numbers={N:0} strings={A:,B:,C:}\nstep 49: n=0 notes=0 split=- trials=0 in=0 out=15 state=running next=8 held=[] numbers={N:0} strings={A:,B:,C:}\nstep 50: n=0 notes=0 split=- trials=0 in=0 out=15 state=running next=8 held=[] numbers={N:0} strings={A:,B:,C:}\nstep 51: n=0 notes=0 split=- trials=0 in=0 out=15 state=running next=8 held=[] numbers={N:0} strings={A:,B:,C:}\nstep 52: n=0 notes=0 split=- trials=0 in=0 out=15 state=running next=8 held=[] numbers={N:0} strings={A:,B:,C:}\nstep 53: n=0 notes=0 split=- trials=0 in=0 out=15 state=running next=8 held=[] numbers={N:0} strings={A:,B:,C:}\nstep 54: n=0 notes=0 split=- trials=0 in=0 out=15 state=running next=8 held=[] numbers={N:0} strings={A:,B:,C:}\nstep 55: n=0 notes=0 split=- trials=0 in=0 out=15 state=running next=8 held=[] numbers={N:0} strings={A:,B:,C:}\nstep 56: n=0 notes=0 split=- trials=0 in=0 out=15 state=running next=8 held=[] numbers={N:0} strings={A:,B:,C:}\nstep 57: n=0 notes=0 split=- trials=0 in=0 out=15 state=running next=8 held=[] numbers={N:0} strings={A:,B:,C:}\nstep 58: n=0 notes=0 split=- trials=0 in=0 out=15 state=running next=8 held=[] numbers={N:0} strings={A:,B:,C:}\nstep 59: n=0 notes=0 split=- trials=0 in=0 out=15 state=running next=8 held=[] numbers={N:0} strings={A:,B:,C:}\nstep 60: n=0 notes=0 split=- trials=0 in=0 out=15 state=running next=8 held=[] numbers={N:0} strings={A:,B:,C:}\n" ≡ true
unfolding agrees
v008 = refl
