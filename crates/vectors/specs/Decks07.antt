-- Decks with their inputs and traces. Assumes nothing.
use Rattle.std.specs.Prelude.{true, ◌≡◌, refl}
use Rattle.vectors.specs.Trace.{agrees, agrees_whole}

r21 : agrees_whole "A        PROGRAM T\n         READ X/A\n         END\n" "1\n2\n" "step 1: n=0 notes=0 split=- trials=0 in=2 out=0 state=running next=2 held=[] numbers={} strings={X:31}\nstep 2: n=0 notes=0 split=- trials=0 in=4 out=0 state=running next=2 held=[] numbers={} strings={X:32}\nstep 3: n=0 notes=0 split=- trials=0 in=4 out=0 state=running next=3 held=[] numbers={} strings={X:32}\nstep 4: n=0 notes=0 split=- trials=0 in=4 out=0 state=finished next=3 held=[] numbers={} strings={X:32}\n" "FINISHED,0,4,0\n" ≡ true
unfolding agrees_whole
r21 = refl

r22 : agrees_whole "         PROGRAM T\n         NUMBER LENGTH,NULL\n         LENGTH=LENGTH(STRING)+LENGTH\nL        IF(NULL=0)/M\nM        X=STRING,STRING$3,STRING(LENGTH)\n         END\n" "" "step 1: n=0 notes=0 split=- trials=0 in=0 out=0 state=running next=4 held=[] numbers={LENGTH:0,NULL:0} strings={STRING:,X:}\nstep 2: n=0 notes=0 split=- trials=0 in=0 out=0 state=running next=5 held=[] numbers={LENGTH:0,NULL:0} strings={STRING:,X:}\nstep 3: n=0 notes=0 split=- trials=0 in=0 out=0 state=running next=6 held=[] numbers={LENGTH:0,NULL:0} strings={STRING:,X:30}\nstep 4: n=0 notes=0 split=- trials=0 in=0 out=0 state=finished next=6 held=[] numbers={LENGTH:0,NULL:0} strings={STRING:,X:30}\n" "FINISHED,0,4,0\n" ≡ true
unfolding agrees_whole
r22 = refl

r23 : agrees "         PROGRAM T\n         READ(060) X\n         END\n" "" "REFUSED 5 2\n" ≡ true
unfolding agrees
r23 = refl

r24 : agrees "         PROGRAM T\nL        READ X /L,\n         END\n" "" "REFUSED 5 2\n" ≡ true
unfolding agrees
r24 = refl

r25 : agrees_whole "         PROGRAM T\n         NUMBER N\n         N=((((((((((((((((NUMBER(S)))))))))))))))))\n         END\n" "" "step 1: n=0 notes=1 split=- trials=0 in=0 out=0 state=running next=4 held=[] numbers={N:0} strings={S:}\nstep 2: n=0 notes=0 split=- trials=0 in=0 out=0 state=finished next=4 held=[] numbers={N:0} strings={S:}\n" "FINISHED,0,2,1\n" ≡ true
unfolding agrees_whole
r25 = refl

r26 : agrees "         PROGRAM T\n         NUMBER N\n         N=(((((((((((((((((1)))))))))))))))))\n         END\n" "" "REFUSED 5 3\n" ≡ true
unfolding agrees
r26 = refl

r27 : agrees_whole "         PROGRAM T\n         NUMBER A\nL        IF(A=7)/L\n         END\n" "" "step 1: n=0 notes=0 split=- trials=0 in=0 out=0 state=running next=4 held=[] numbers={A:0} strings={}\nstep 2: n=0 notes=0 split=- trials=0 in=0 out=0 state=finished next=4 held=[] numbers={A:0} strings={}\n" "FINISHED,0,2,0\n" ≡ true
unfolding agrees_whole
r27 = refl

r28 : agrees "         PROGRAM T\n         NUMBER A\nL        IF A=7/L\n         END\n" "" "REFUSED 5 3\n" ≡ true
unfolding agrees
r28 = refl

r29 : agrees "         PROGRAM T\nL        IF(NULL(X$3))/L\n         END\n" "" "REFUSED 5 2\n" ≡ true
unfolding agrees
r29 = refl

r30 : agrees_whole "         PROGRAM T\n         PRINT\n         X=\"B\"\n         SCAN X[]=\"A\"\n         BACKSCAN X[]=\"D\",\"C\"\n         PRINT X\n         END\n" "" "step 1: n=0 notes=0 split=- trials=0 in=0 out=0 state=running next=3 held=[] numbers={} strings={X:}\nstep 2: n=0 notes=0 split=- trials=0 in=0 out=0 state=running next=4 held=[] numbers={} strings={X:42}\nstep 3: n=0 notes=0 split=0; trials=0 in=0 out=0 state=running next=5 held=[] numbers={} strings={X:4142}\nstep 4: n=0 notes=0 split=0; trials=0 in=0 out=0 state=running next=6 held=[] numbers={} strings={X:41424344}\nstep 5: n=0 notes=0 split=- trials=0 in=0 out=5 state=running next=7 held=[] numbers={} strings={X:41424344}\nstep 6: n=0 notes=0 split=- trials=0 in=0 out=5 state=finished next=7 held=[] numbers={} strings={X:41424344}\n" "ABCD\nFINISHED,0,6,0\n" ≡ true
unfolding agrees_whole
r30 = refl

r31 : agrees "         PROGRAM T\n         X=STRING(5)\n         END\n" "" "REFUSED 5 2\n" ≡ true
unfolding agrees
r31 = refl

r32 : agrees_whole "         PROGRAM T\n         NUMBER N\n         X=STRING(+3,N)\n         END\n" "" "step 1: n=0 notes=0 split=- trials=0 in=0 out=0 state=running next=4 held=[] numbers={N:0} strings={X:303030}\nstep 2: n=0 notes=0 split=- trials=0 in=0 out=0 state=finished next=4 held=[] numbers={N:0} strings={X:303030}\n" "FINISHED,0,2,0\n" ≡ true
unfolding agrees_whole
r32 = refl

r33 : agrees "         PROGRAM T\n         NUMBER N\n         N=2*-3\n         END\n" "" "REFUSED 5 3\n" ≡ true
unfolding agrees
r33 = refl

r34 : agrees_whole "         PROGRAM T\n         X=Y$0000000008388607\n         END\n" "" "step 1: n=0 notes=0 split=- trials=0 in=0 out=0 state=running next=3 held=[] numbers={} strings={X:,Y:}\nstep 2: n=0 notes=0 split=- trials=0 in=0 out=0 state=finished next=3 held=[] numbers={} strings={X:,Y:}\n" "FINISHED,0,2,0\n" ≡ true
unfolding agrees_whole
r34 = refl

r35 : agrees "         PROGRAM T\n         GO TO X\n         X=\"A\"\n         END\n" "" "REFUSED 6 3\n" ≡ true
unfolding agrees
r35 = refl

r36 : agrees "         PROGRAM T\n         NUMBER N\n         S=\"5\"\n         N=S+1\n         END\n" "" "REFUSED 6 4\n" ≡ true
unfolding agrees
r36 = refl

r37 : agrees "         PROGRAM T\n         X=STRING(S),S\n         END\n" "" "REFUSED 6 2\n" ≡ true
unfolding agrees
r37 = refl

r38 : agrees "         PROGRAM T\n         NUMBER N\n         N=NEW+1\n         END\n" "" "REFUSED 7 3\n" ≡ true
unfolding agrees
r38 = refl

r39 : agrees "         PROGRAM T\n         N=N+1\n         END\n" "" "REFUSED 5 2\n" ≡ true
unfolding agrees
r39 = refl

r40 : agrees "         PROGRAM T\n         NUMBER N\n         N=\n         END\n" "" "REFUSED 5 3\n" ≡ true
unfolding agrees
r40 = refl
