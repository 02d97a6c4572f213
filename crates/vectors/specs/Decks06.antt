-- Decks with their inputs and traces. Assumes nothing.
use Rattle.std.specs.Prelude.{true, ◌≡◌, refl}
use Rattle.vectors.specs.Trace.{agrees, agrees_whole}

r01 : agrees "         PROGRAM T\n        +END\n" "" "REFUSED 3 2\n" ≡ true
unfolding agrees
r01 = refl

r02 : agrees_whole "         PROGRAM T\n        +PRINT \"AB\n         CD\"\n         END\n" "" "step 1: n=0 notes=0 split=- trials=0 in=0 out=5 state=running next=4 held=[] numbers={} strings={}\nstep 2: n=0 notes=0 split=- trials=0 in=0 out=5 state=finished next=4 held=[] numbers={} strings={}\n" "ABCD\nFINISHED,0,2,0\n" ≡ true
unfolding agrees_whole
r02 = refl

r03 : agrees "         PROGRAM T\n        +\n         X=5\n         END\n" "" "REFUSED 5 2\n" ≡ true
unfolding agrees
r03 = refl

r04 : agrees "         PROGRAM T\nL\n         GO TO L\n         END\n" "" "REFUSED 5 2\n" ≡ true
unfolding agrees
r04 = refl

r05 : agrees "         PROGRAM T                                                      \u{7f}\n         END\n" "" "REFUSED 3 1\n" ≡ true
unfolding agrees
r05 = refl

r06 : agrees_whole "         PROGRAM T\n        +X=\n1+?.=\"   \"A\"\n         END\n" "" "step 1: n=0 notes=0 split=- trials=0 in=0 out=0 state=running next=4 held=[] numbers={} strings={X:41}\nstep 2: n=0 notes=0 split=- trials=0 in=0 out=0 state=finished next=4 held=[] numbers={} strings={X:41}\n" "FINISHED,0,2,0\n" ≡ true
unfolding agrees_whole
r06 = refl

r07 : agrees_whole "         PROGRAM T\n        +X=\nLABEL\n         END\n" "" "step 1: n=0 notes=0 split=- trials=0 in=0 out=0 state=running next=4 held=[] numbers={} strings={X:}\nstep 2: n=0 notes=0 split=- trials=0 in=0 out=0 state=finished next=4 held=[] numbers={} strings={X:}\n" "FINISHED,0,2,0\n" ≡ true
unfolding agrees_whole
r07 = refl

r08 : agrees "         PROGRAM T\n        +X=\n        +\"A\"\n        /,\"B\"\n         END\n" "" "REFUSED 3 2\n" ≡ true
unfolding agrees
r08 = refl

r09 : agrees_whole "         PROGRAM T\n* A COMMENT OF MORE THAN 9 COLUMNS\n         END\n" "" "step 1: n=0 notes=0 split=- trials=0 in=0 out=0 state=finished next=3 held=[] numbers={} strings={}\n" "FINISHED,0,1,0\n" ≡ true
unfolding agrees_whole
r09 = refl

r10 : agrees_whole "         PROGRAM T\n         NUMBER N\nL        I F (N < > 1 0) /L L, L\nL L      EXIT\n         END\n" "" "step 1: n=0 notes=0 split=- trials=0 in=0 out=0 state=running next=4 held=[] numbers={N:0} strings={}\nstep 2: n=0 notes=0 split=- trials=0 in=0 out=0 state=finished next=4 held=[] numbers={N:0} strings={}\n" "FINISHED,0,2,0\n" ≡ true
unfolding agrees_whole
r10 = refl

r11 : agrees "         PROGRAM T\n         X=\"\" \"\n         END\n" "" "REFUSED 5 2\n" ≡ true
unfolding agrees
r11 = refl

r12 : agrees "         PROGRAM T\n         X=\"\"\"\",\"A\"\n         END\n" "" "REFUSED 5 2\n" ≡ true
unfolding agrees
r12 = refl

r13 : agrees "         PROGRAM T\n         PRINT \"AB\n         END\n" "" "REFUSED 5 2\n" ≡ true
unfolding agrees
r13 = refl

r14 : agrees "         PROGRAM T\n$JOB     X=\n         END\n" "" "REFUSED 5 2\n" ≡ true
unfolding agrees
r14 = refl

r15 : agrees "         PROGRAM T\n         X==\n*\u{1}\n         END\n" "" "REFUSED 5 2\n" ≡ true
unfolding agrees
r15 = refl

r16 : agrees_whole "         PROGRAM T\n         NUMBER A\nL        IF(A=7)/L\n         END\n" "" "step 1: n=0 notes=0 split=- trials=0 in=0 out=0 state=running next=4 held=[] numbers={A:0} strings={}\nstep 2: n=0 notes=0 split=- trials=0 in=0 out=0 state=finished next=4 held=[] numbers={A:0} strings={}\n" "FINISHED,0,2,0\n" ≡ true
unfolding agrees_whole
r16 = refl

r17 : agrees "         PROGRAM$9999999=\n         END\n" "" "REFUSED 4 1\n" ≡ true
unfolding agrees
r17 = refl

r18 : agrees "         PROGRAM TT=\n         END\n" "" "REFUSED 5 1\n" ≡ true
unfolding agrees
r18 = refl

r19 : agrees "         PROGRAM T\n         END=\n" "" "REFUSED 4 0\n" ≡ true
unfolding agrees
r19 = refl

r20 : agrees_whole "         PROGRAM T\n         ER=\"A\"\n         PRINTER\n         END\n" "" "step 1: n=0 notes=0 split=- trials=0 in=0 out=0 state=running next=3 held=[] numbers={} strings={ER:41}\nstep 2: n=0 notes=0 split=- trials=0 in=0 out=2 state=running next=4 held=[] numbers={} strings={ER:41}\nstep 3: n=0 notes=0 split=- trials=0 in=0 out=2 state=finished next=4 held=[] numbers={} strings={ER:41}\n" "A\nFINISHED,0,3,0\n" ≡ true
unfolding agrees_whole
r20 = refl
