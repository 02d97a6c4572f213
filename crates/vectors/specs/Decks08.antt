-- Decks with their inputs and traces. Assumes nothing.
use Rattle.std.specs.Prelude.{true, ◌≡◌, refl}
use Rattle.vectors.specs.Trace.{agrees, agrees_whole}

r41 : agrees "         PROGRAM T\n         NUMBER N\n         N$3=\"A\"\n         END\n" "" "REFUSED 6 3\n" ≡ true
unfolding agrees
r41 = refl

r42 : agrees "         PROGRAM T\n         T=5\n         END\n" "" "REFUSED 5 2\n" ≡ true
unfolding agrees
r42 = refl

r43 : agrees_whole "         PROGRAM T\n         GO TO B\nA        NUMBER N\n         N=1\n         EXIT\nB        N=2\n         GO TO A\n         END\n" "" "step 1: n=0 notes=0 split=- trials=0 in=0 out=0 state=running next=6 held=[] numbers={N:0} strings={}\nstep 2: n=0 notes=0 split=- trials=0 in=0 out=0 state=running next=7 held=[] numbers={N:2} strings={}\nstep 3: n=0 notes=0 split=- trials=0 in=0 out=0 state=running next=4 held=[] numbers={N:2} strings={}\nstep 4: n=0 notes=0 split=- trials=0 in=0 out=0 state=running next=5 held=[] numbers={N:1} strings={}\nstep 5: n=0 notes=0 split=- trials=0 in=0 out=0 state=finished next=5 held=[] numbers={N:1} strings={}\n" "FINISHED,0,5,0\n" ≡ true
unfolding agrees_whole
r43 = refl

r44 : agrees "         PROGRAM T\n         END\n\n* C\n         X=\n" "" "REFUSED 4 5\n" ≡ true
unfolding agrees
r44 = refl

r45 : agrees "* C\n         X=\n         PROGRAM T\n         END\n" "" "REFUSED 4 2\n" ≡ true
unfolding agrees
r45 = refl

r46 : agrees "         PROGRAM T\n         PROGRAM 1\n         END\n" "" "REFUSED 4 2\n" ≡ true
unfolding agrees
r46 = refl

r47 : agrees "         PROGRAM T\n         END\n* \u{7}\n" "" "REFUSED 3 3\n" ≡ true
unfolding agrees
r47 = refl

r48 : agrees "         PROGRAM T\n         SCAN X[(A),A$3]\n         END\n" "" "REFUSED 8 2\n" ≡ true
unfolding agrees
r48 = refl

r49 : agrees "         PROGRAM T\n         ROUTINE R\n         END\n" "" "REFUSED 9 3\n" ≡ true
unfolding agrees
r49 = refl

r50 : agrees "         PROGRAM T\n         X=\n         X=\n         X=\n         X=\n         X=\n         X=\n         X=\n         X=\n         X=\n         X=\n         X=\n         X=\n         X=\n         X=\n         X=\n         X=\n         X=\n         X=\n         X=\n         X=\n         X=\n         X=\n         X=\n         X=\n         X=\n         X=\n         X=\n         X=\n         X=\n         X=\n         X=\n         X=\n         X=\n         X=\n         X=\n         X=\n         X=\n         X=\n         X=\n         X=\n         X=\n         X=\n         X=\n         X=\n         X=\n         X=\n         X=\n         X=\n         X=\n         X=\n         X=\n         X=\n         X=\n         X=\n         X=\n         X=\n         X=\n         X=\n         X=\n         X=\n         X=\n         X=\n         X=\n         X=\n         X=\n         X=\n         X=\n         X=\n         X=\n         X=\n         X=\n         X=\n         X=\n         X=\n         X=\n         X=\n         X=\n         X=\n         X=\n         X=\n         X=\n         X=\n         X=\n         X=\n         X=\n         X=\n         X=\n         X=\n         X=\n         X=\n         X=\n         X=\n         X=\n         X=\n         X=\n         X=\n         X=\n         X=\n         X=\n         X=\n         X=\n         X=\n         X=\n         X=\n         X=\n         X=\n         X=\n         X=\n         X=\n         X=\n         X=\n         X=\n         X=\n         X=\n         X=\n         X=\n         X=\n         X=\n         X=\n         X=\n         X=\n         X=\n         X=\n         X=\n         X=\n         X=\n         X=\n         X=\n         X=\n         X=\n         X=\n         X=\n         X=\n         X=\n         X=\n         X=\n         X=\n         X=\n         X=\n         X=\n         X=\n         X=\n         X=\n         X=\n         X=\n         X=\n         X=\n         X=\n         X=\n         X=\n         X=\n         X=\n         X=\n         X=\n         X=\n         X=\n         X=\n         X=\n         X=\n         X=\n         X=\n         X=\n         X=\n         X=\n         X=\n         X=\n         X=\n         X=\n         X=\n         X=\n         X=\n         X=\n         X=\n         X=\n         X=\n         X=\n         X=\n         X=\n         X=\n         X=\n         X=\n         X=\n         X=\n         X=\n         X=\n         X=\n         X=\n         X=\n         X=\n         X=\n         X=\n         X=\n         X=\n         X=\n         X=\n         X=\n         X=\n         X=\n         X=\n         X=\n         X=\n         X=\n         X=\n         X=\n         X=\n         X=\n         X=\n         X=\n         X=\n         X=\n         X=\n         X=\n         X=\n         X=\n         X=\n         X=\n         X=\n         X=\n         X=\n         X=\n         X=\n         X=\n         X=\n         X=\n         X=\n         X=\n         X=\n         X=\n         X=\n         X=\n         X=\n         X=\n         X=\n         X=\n         X=\n         X=\n         X=\n         X=\n         X=\n         X=\n         X=\n         X=\n         X=\n         X=\n         X=\n         X=\n         X=\n         X=\n         X=\n         X=\n         X=\n         X=\n         X=\n         X=\n         X=\n         END\n" "" "REFUSED 10 257\n" ≡ true
unfolding agrees
r50 = refl

r51 : agrees "         PROGRAM T\n         READ X/L0\n         READ X/L1\n         READ X/L2\n         READ X/L3\n         READ X/L4\n         READ X/L5\n         READ X/L6\n         READ X/L7\n         READ X/L8\n         READ X/L9\n         READ X/L10\n         READ X/L11\n         READ X/L12\n         READ X/L13\n         READ X/L14\n         READ X/L15\n         READ X/L16\n         READ X/L17\n         READ X/L18\n         READ X/L19\n         READ X/L20\n         READ X/L21\n         READ X/L22\n         READ X/L23\n         READ X/L24\n         READ X/L25\n         READ X/L26\n         READ X/L27\n         READ X/L28\n         READ X/L29\n         READ X/L30\n         READ X/L31\n         READ X/L32\n         READ X/L33\n         READ X/L34\n         READ X/L35\n         READ X/L36\n         READ X/L37\n         READ X/L38\n         READ X/L39\n         READ X/L40\n         READ X/L41\n         READ X/L42\n         READ X/L43\n         READ X/L44\n         READ X/L45\n         READ X/L46\n         READ X/L47\n         READ X/L48\n         READ X/L49\n         READ X/L50\n         READ X/L51\n         READ X/L52\n         READ X/L53\n         READ X/L54\n         READ X/L55\n         READ X/L56\n         READ X/L57\n         READ X/L58\n         READ X/L59\n         READ X/L60\n         READ X/L61\n         READ X/L62\n         READ X/L63\n         READ X/L64\n         END\n" "" "REFUSED 11 0\n" ≡ true
unfolding agrees
r51 = refl

r52 : agrees "         PROGRAM T\n         S0=\n         S1=\n         S2=\n         S3=\n         S4=\n         S5=\n         S6=\n         S7=\n         S8=\n         S9=\n         S10=\n         S11=\n         S12=\n         S13=\n         S14=\n         S15=\n         S16=\n         S17=\n         S18=\n         S19=\n         S20=\n         S21=\n         S22=\n         S23=\n         S24=\n         S25=\n         S26=\n         S27=\n         S28=\n         S29=\n         S30=\n         S31=\n         NUMBER N\n         N=LENGTH(Z)\n         END\n" "" "REFUSED 10 35\n" ≡ true
unfolding agrees
r52 = refl

r53 : agrees "         PROGRAM T\n         NUMBER N\n         N=N+N+N+N+N+N+N+N\n         N=N+N+N+N+N+N+N+N\n         N=N+N+N+N+N+N+N+N\n         N=N+N+N+N+N+N+N+N\n         N=N+N+N+N+N+N+N+N\n         N=N+N+N+N+N+N+N+N\n         N=N+N+N+N+N+N+N+N\n         N=N+N+N+N+N+N+N+N\n         N=N+N+N+N+N+N+N+N\n         N=N+N+N+N+N+N+N+N\n         N=N+N+N+N+N+N+N+N\n         N=N+N+N+N+N+N+N+N\n         N=N+N+N+N+N+N+N+N\n         N=N+N+N+N+N+N+N+N\n         N=N+N+N+N+N+N+N+N\n         N=N+N+N+N+N+N+N+N\n         N=N+N+N+N+N+N+N+N\n         N=N+N+N+N+N+N+N+N\n         N=N+N+N+N+N+N+N+N\n         N=N+N+N+N+N+N+N+N\n         N=N+N+N+N+N+N+N+N\n         N=N+N+N+N+N+N+N+N\n         N=N+N+N+N+N+N+N+N\n         N=N+N+N+N+N+N+N+N\n         N=N+N+N+N+N+N+N+N\n         N=N+N+N+N+N+N+N+N\n         N=N+N+N+N+N+N+N+N\n         N=N+N+N+N+N+N+N+N\n         N=N+N+N+N+N+N+N+N\n         N=N+N+N+N+N+N+N+N\n         N=N+N+N+N+N+N+N+N\n         N=N+N+N+N+N+N+N+N\n         N=N+N+N+N+N+N+N+N\n         N=N+N+N+N+N+N+N+N\n         N=N+N+N+N+N+N+N+N\n         N=N+N+N+N+N+N+N+N\n         N=N+N+N+N+N+N+N+N\n         N=N+N+N+N+N+N+N+N\n         N=N+N+N+N+N+N+N+N\n         N=N+N+N+N+N+N+N+N\n         N=N+N+N+N+N+N+N+N\n         N=N+N+N+N+N+N+N+N\n         N=N+N+N+N+N+N+N+N\n         N=N+N+N+N+N+N+N+N\n         N=N+N+N+N+N+N+N+N\n         N=N+N+N+N+N+N+N+N\n         N=N+N+N+N+N+N+N+N\n         N=N+N+N+N+N+N+N+N\n         N=N+N+N+N+N+N+N+N\n         N=N+N+N+N+N+N+N+N\n         N=N+N+N+N+N+N+N+N\n         N=N+N+N+N+N+N+N+N\n         N=N+N+N+N+N+N+N+N\n         N=N+N+N+N+N+N+N+N\n         N=N+N+N+N+N+N+N+N\n         N=N+N+N+N+N+N+N+N\n         N=N+N+N+N+N+N+N+N\n         N=N+N+N+N+N+N+N+N\n         N=N+N+N+N+N+N+N+N\n         N=N+N+N+N+N+N+N+N\n         N=N+N+N+N+N+N+N+N\n         N=N+N+N+N+N+N+N+N\n         N=N+N+N+N+N+N+N+N\n         N=N+N+N+N+N+N+N+N\n         N=N+N+N+N+N+N+N+N\n         N=N+N+N+N+N+N+N+N\n         N=N+N+N+N+N+N+N+N\n         N=N+N+N+N+N+N+N+N\n         N=N+N\n         N=N+N\n         END\n" "" "REFUSED 10 72\n" ≡ true
unfolding agrees
r53 = refl

r54 : agrees "         PROGRAM T\n         NUMBER N\n         N=N+N+N+N+N+N+N+N\n         N=N+N+N+N+N+N+N+N\n         N=N+N+N+N+N+N+N+N\n         N=N+N+N+N+N+N+N+N\n         N=N+N+N+N+N+N+N+N\n         N=N+N+N+N+N+N+N+N\n         N=N+N+N+N+N+N+N+N\n         N=N+N+N+N+N+N+N+N\n         N=N+N+N+N+N+N+N+N\n         N=N+N+N+N+N+N+N+N\n         N=N+N+N+N+N+N+N+N\n         N=N+N+N+N+N+N+N+N\n         N=N+N+N+N+N+N+N+N\n         N=N+N+N+N+N+N+N+N\n         N=N+N+N+N+N+N+N+N\n         N=N+N+N+N+N+N+N+N\n         N=N+N+N+N+N+N+N+N\n         N=N+N+N+N+N+N+N+N\n         N=N+N+N+N+N+N+N+N\n         N=N+N+N+N+N+N+N+N\n         N=N+N+N+N+N+N+N+N\n         N=N+N+N+N+N+N+N+N\n         N=N+N+N+N+N+N+N+N\n         N=N+N+N+N+N+N+N+N\n         N=N+N+N+N+N+N+N+N\n         N=N+N+N+N+N+N+N+N\n         N=N+N+N+N+N+N+N+N\n         N=N+N+N+N+N+N+N+N\n         N=N+N+N+N+N+N+N+N\n         N=N+N+N+N+N+N+N+N\n         N=N+N+N+N+N+N+N+N\n         N=N+N+N+N+N+N+N+N\n         N=N+N+N+N+N+N+N+N\n         N=N+N+N+N+N+N+N+N\n         N=N+N+N+N+N+N+N+N\n         N=N+N+N+N+N+N+N+N\n         N=N+N+N+N+N+N+N+N\n         N=N+N+N+N+N+N+N+N\n         N=N+N+N+N+N+N+N+N\n         N=N+N+N+N+N+N+N+N\n         N=N+N+N+N+N+N+N+N\n         N=N+N+N+N+N+N+N+N\n         N=N+N+N+N+N+N+N+N\n         N=N+N+N+N+N+N+N+N\n         N=N+N+N+N+N+N+N+N\n         N=N+N+N+N+N+N+N+N\n         N=N+N+N+N+N+N+N+N\n         N=N+N+N+N+N+N+N+N\n         N=N+N+N+N+N+N+N+N\n         N=N+N+N+N+N+N+N+N\n         N=N+N+N+N+N+N+N+N\n         N=N+N+N+N+N+N+N+N\n         N=N+N+N+N+N+N+N+N\n         N=N+N+N+N+N+N+N+N\n         N=N+N+N+N+N+N+N+N\n         N=N+N+N+N+N+N+N+N\n         N=N+N+N+N+N+N+N+N\n         N=N+N+N+N+N+N+N+N\n         N=N+N+N+N+N+N+N+N\n         N=N+N+N+N+N+N+N+N\n         N=N+N+N+N+N+N+N+N\n         N=N+N+N+N+N+N+N+N\n         N=N+N+N+N+N+N+N+N\n         N=N+N+N+N+N+N+N+N\n         N=N+N+N+N+N+N+N+N\n         N=N+N+N+N+N+N+N+N\n         N=N+N+N+N+N+N+N+N\n         N=N+N+N+N+N+N+N+N\n         N=-N\n         N=-N\n         N=N\n         END\n" "" "REFUSED 10 73\n" ≡ true
unfolding agrees
r54 = refl

r55 : agrees_whole "         PROGRAM T\n         NUMBER N\n         N=N+N+N+N+N+N+N+N\n         N=N+N+N+N+N+N+N+N\n         N=N+N+N+N+N+N+N+N\n         N=N+N+N+N+N+N+N+N\n         N=N+N+N+N+N+N+N+N\n         N=N+N+N+N+N+N+N+N\n         N=N+N+N+N+N+N+N+N\n         N=N+N+N+N+N+N+N+N\n         N=N+N+N+N+N+N+N+N\n         N=N+N+N+N+N+N+N+N\n         N=N+N+N+N+N+N+N+N\n         N=N+N+N+N+N+N+N+N\n         N=N+N+N+N+N+N+N+N\n         N=N+N+N+N+N+N+N+N\n         N=N+N+N+N+N+N+N+N\n         N=N+N+N+N+N+N+N+N\n         N=N+N+N+N+N+N+N+N\n         N=N+N+N+N+N+N+N+N\n         N=N+N+N+N+N+N+N+N\n         N=N+N+N+N+N+N+N+N\n         N=N+N+N+N+N+N+N+N\n         N=N+N+N+N+N+N+N+N\n         N=N+N+N+N+N+N+N+N\n         N=N+N+N+N+N+N+N+N\n         N=N+N+N+N+N+N+N+N\n         N=N+N+N+N+N+N+N+N\n         N=N+N+N+N+N+N+N+N\n         N=N+N+N+N+N+N+N+N\n         N=N+N+N+N+N+N+N+N\n         N=N+N+N+N+N+N+N+N\n         N=N+N+N+N+N+N+N+N\n         N=N+N+N+N+N+N+N+N\n         N=N+N+N+N+N+N+N+N\n         N=N+N+N+N+N+N+N+N\n         N=N+N+N+N+N+N+N+N\n         N=N+N+N+N+N+N+N+N\n         N=N+N+N+N+N+N+N+N\n         N=N+N+N+N+N+N+N+N\n         N=N+N+N+N+N+N+N+N\n         N=N+N+N+N+N+N+N+N\n         N=N+N+N+N+N+N+N+N\n         N=N+N+N+N+N+N+N+N\n         N=N+N+N+N+N+N+N+N\n         N=N+N+N+N+N+N+N+N\n         N=N+N+N+N+N+N+N+N\n         N=N+N+N+N+N+N+N+N\n         N=N+N+N+N+N+N+N+N\n         N=N+N+N+N+N+N+N+N\n         N=N+N+N+N+N+N+N+N\n         N=N+N+N+N+N+N+N+N\n         N=N+N+N+N+N+N+N+N\n         N=N+N+N+N+N+N+N+N\n         N=N+N+N+N+N+N+N+N\n         N=N+N+N+N+N+N+N+N\n         N=N+N+N+N+N+N+N+N\n         N=N+N+N+N+N+N+N+N\n         N=N+N+N+N+N+N+N+N\n         N=N+N+N+N+N+N+N+N\n         N=N+N+N+N+N+N+N+N\n         N=N+N+N+N+N+N+N+N\n         N=N+N+N+N+N+N+N+N\n         N=N+N+N+N+N+N+N+N\n         N=N+N+N+N+N+N+N+N\n         N=N+N+N+N+N+N+N+N\n         N=N+N+N+N+N+N+N+N\n         N=N+N+N+N+N+N+N+N\n         N=N+N+N+N+N+N+N+N\n         N=N+N+N+N+N+N+N+N\nL        IF(N=-1)/L\n         IF(N=1)/L\n         IF(N=1)/L\n         IF(N=1)/L\n         END\n" "" "step 1: n=0 notes=0 split=- trials=0 in=0 out=0 state=running next=4 held=[] numbers={N:0} strings={}\nstep 2: n=0 notes=0 split=- trials=0 in=0 out=0 state=running next=5 held=[] numbers={N:0} strings={}\nstep 3: n=0 notes=0 split=- trials=0 in=0 out=0 state=running next=6 held=[] numbers={N:0} strings={}\nstep 4: n=0 notes=0 split=- trials=0 in=0 out=0 state=running next=7 held=[] numbers={N:0} strings={}\nstep 5: n=0 notes=0 split=- trials=0 in=0 out=0 state=running next=8 held=[] numbers={N:0} strings={}\nstep 6: n=0 notes=0 split=- trials=0 in=0 out=0 state=running next=9 held=[] numbers={N:0} strings={}\nstep 7: n=0 notes=0 split=- trials=0 in=0 out=0 state=running next=10 held=[] numbers={N:0} strings={}\nstep 8: n=0 notes=0 split=- trials=0 in=0 out=0 state=running next=11 held=[] numbers={N:0} strings={}\nstep 9: n=0 notes=0 split=- trials=0 in=0 out=0 state=running next=12 held=[] numbers={N:0} strings={}\nstep 10: n=0 notes=0 split=- trials=0 in=0 out=0 state=running next=13 held=[] numbers={N:0} strings={}\nstep 11: n=0 notes=0 split=- trials=0 in=0 out=0 state=running next=14 held=[] numbers={N:0} strings={}\nstep 12: n=0 notes=0 split=- trials=0 in=0 out=0 state=running next=15 held=[] numbers={N:0} strings={}\nstep 13: n=0 notes=0 split=- trials=0 in=0 out=0 state=running next=16 held=[] numbers={N:0} strings={}\nstep 14: n=0 notes=0 split=- trials=0 in=0 out=0 state=running next=17 held=[] numbers={N:0} strings={}\nstep 15: n=0 notes=0 split=- trials=0 in=0 out=0 state=running next=18 held=[] numbers={N:0} strings={}\nstep 16: n=0 notes=0 split=- trials=0 in=0 out=0 state=running next=19 held=[] numbers={N:0} strings={}\nstep 17: n=0 notes=0 split=- trials=0 in=0 out=0 state=running next=20 held=[] numbers={N:0} strings={}\nstep 18: n=0 notes=0 split=- trials=0 in=0 out=0 state=running next=21 held=[] numbers={N:0} strings={}\nstep 19: n=0 notes=0 split=- trials=0 in=0 out=0 state=running next=22 held=[] numbers={N:0} strings={}\nstep 20: n=0 notes=0 split=- trials=0 in=0 out=0 state=running next=23 held=[] numbers={N:0} strings={}\nstep 21: n=0 notes=0 split=- trials=0 in=0 out=0 state=running next=24 held=[] numbers={N:0} strings={}\nstep 22: n=0 notes=0 split=- trials=0 in=0 out=0 state=running next=25 held=[] numbers={N:0} strings={}\nstep 23: n=0 notes=0 split=- trials=0 in=0 out=0 state=running next=26 held=[] numbers={N:0} strings={}\nstep 24: n=0 notes=0 split=- trials=0 in=0 out=0 state=running next=27 held=[] numbers={N:0} strings={}\nstep 25: n=0 notes=0 split=- trials=0 in=0 out=0 state=running next=28 held=[] numbers={N:0} strings={}\nstep 26: n=0 notes=0 split=- trials=0 in=0 out=0 state=running next=29 held=[] numbers={N:0} strings={}\nstep 27: n=0 notes=0 split=- trials=0 in=0 out=0 state=running next=30 held=[] numbers={N:0} strings={}\nstep 28: n=0 notes=0 split=- trials=0 in=0 out=0 state=running next=31 held=[] numbers={N:0} strings={}\nstep 29: n=0 notes=0 split=- trials=0 in=0 out=0 state=running next=32 held=[] numbers={N:0} strings={}\nstep 30: n=0 notes=0 split=- trials=0 in=0 out=0 state=running next=33 held=[] numbers={N:0} strings={}\nstep 31: n=0 notes=0 split=- trials=0 in=0 out=0 state=running next=34 held=[] numbers={N:0} strings={}\nstep 32: n=0 notes=0 split=- trials=0 in=0 out=0 state=running next=35 held=[] numbers={N:0} strings={}\nstep 33: n=0 notes=0 split=- trials=0 in=0 out=0 state=running next=36 held=[] numbers={N:0} strings={}\nstep 34: n=0 notes=0 split=- trials=0 in=0 out=0 state=running next=37 held=[] numbers={N:0} strings={}\nstep 35: n=0 notes=0 split=- trials=0 in=0 out=0 state=running next=38 held=[] numbers={N:0} strings={}\nstep 36: n=0 notes=0 split=- trials=0 in=0 out=0 state=running next=39 held=[] numbers={N:0} strings={}\nstep 37: n=0 notes=0 split=- trials=0 in=0 out=0 state=running next=40 held=[] numbers={N:0} strings={}\nstep 38: n=0 notes=0 split=- trials=0 in=0 out=0 state=running next=41 held=[] numbers={N:0} strings={}\nstep 39: n=0 notes=0 split=- trials=0 in=0 out=0 state=running next=42 held=[] numbers={N:0} strings={}\nstep 40: n=0 notes=0 split=- trials=0 in=0 out=0 state=running next=43 held=[] numbers={N:0} strings={}\nstep 41: n=0 notes=0 split=- trials=0 in=0 out=0 state=running next=44 held=[] numbers={N:0} strings={}\nstep 42: n=0 notes=0 split=- trials=0 in=0 out=0 state=running next=45 held=[] numbers={N:0} strings={}\nstep 43: n=0 notes=0 split=- trials=0 in=0 out=0 state=running next=46 held=[] numbers={N:0} strings={}\nstep 44: n=0 notes=0 split=- trials=0 in=0 out=0 state=running next=47 held=[] numbers={N:0} strings={}\nstep 45: n=0 notes=0 split=- trials=0 in=0 out=0 state=running next=48 held=[] numbers={N:0} strings={}\nstep 46: n=0 notes=0 split=- trials=0 in=0 out=0 state=running next=49 held=[] numbers={N:0} strings={}\nstep 47: n=0 notes=0 split=- trials=0 in=0 out=0 state=running next=50 held=[] numbers={N:0} strings={}\nstep 48: n=0 notes=0 split=- trials=0 in=0 out=0 state=running next=51 held=[] numbers={N:0} strings={}\nstep 49: n=0 notes=0 split=- trials=0 in=0 out=0 state=running next=52 held=[] numbers={N:0} strings={}\nstep 50: n=0 notes=0 split=- trials=0 in=0 out=0 state=running next=53 held=[] numbers={N:0} strings={}\nstep 51: n=0 notes=0 split=- trials=0 in=0 out=0 state=running next=54 held=[] numbers={N:0} strings={}\nstep 52: n=0 notes=0 split=- trials=0 in=0 out=0 state=running next=55 held=[] numbers={N:0} strings={}\nstep 53: n=0 notes=0 split=- trials=0 in=0 out=0 state=running next=56 held=[] numbers={N:0} strings={}\nstep 54: n=0 notes=0 split=- trials=0 in=0 out=0 state=running next=57 held=[] numbers={N:0} strings={}\nstep 55: n=0 notes=0 split=- trials=0 in=0 out=0 state=running next=58 held=[] numbers={N:0} strings={}\nstep 56: n=0 notes=0 split=- trials=0 in=0 out=0 state=running next=59 held=[] numbers={N:0} strings={}\nstep 57: n=0 notes=0 split=- trials=0 in=0 out=0 state=running next=60 held=[] numbers={N:0} strings={}\nstep 58: n=0 notes=0 split=- trials=0 in=0 out=0 state=running next=61 held=[] numbers={N:0} strings={}\nstep 59: n=0 notes=0 split=- trials=0 in=0 out=0 state=running next=62 held=[] numbers={N:0} strings={}\nstep 60: n=0 notes=0 split=- trials=0 in=0 out=0 state=running next=63 held=[] numbers={N:0} strings={}\n" "FINISHED,0,73,0\n" ≡ true
unfolding agrees_whole
r55 = refl

r56 : agrees_whole "         PROGRAM T\n         SCAN X[A,A,A,A,A,A,A,A,A,A,A,A,A,A,A,A,A,A,A,A]\n         SCAN X[A]=A,A,A,A,A,A,A,A,A,A,A,A,A,A,A,A,A,A,A,A\n         END\n" "" "step 1: n=0 notes=0 split=0;0,0,0,0,0,0,0,0,0,0,0,0,0,0,0,0,0,0,0,0 trials=20 in=0 out=0 state=running next=3 held=[] numbers={} strings={X:,A:}\nstep 2: n=0 notes=0 split=0;0 trials=1 in=0 out=0 state=running next=4 held=[] numbers={} strings={X:,A:}\nstep 3: n=0 notes=0 split=- trials=0 in=0 out=0 state=finished next=4 held=[] numbers={} strings={X:,A:}\n" "FINISHED,0,3,0\n" ≡ true
unfolding agrees_whole
r56 = refl

r57 : agrees_whole "         PROGRAM T\n         X=\"AAAAAAAAAAAAAAAAAAAAAAAAAAAAAAAA\"\n         X=\"AAAAAAAAAAAAAAAAAAAAAAAAAAAAAAAA\"\n         X=\"AAAAAAAAAAAAAAAAAAAAAAAAAAAAAAAA\"\n         X=\"AAAAAAAAAAAAAAAAAAAAAAAAAAAAAAAA\"\n         X=\"AAAAAAAAAAAAAAAAAAAAAAAAAAAAAAAA\"\n         X=\"AAAAAAAAAAAAAAAAAAAAAAAAAAAAAAAA\"\n         X=\"AAAAAAAAAAAAAAAAAAAAAAAAAAAAAAAA\"\n         X=\"AAAAAAAAAAAAAAAAAAAAAAAAAAAAAAAA\"\n         X=\"AAAAAAAAAAAAAAAAAAAAAAAAAAAAAAAA\"\n         X=\"AAAAAAAAAAAAAAAAAAAAAAAAAAAAAAAA\"\n         X=\"AAAAAAAAAAAAAAAAAAAAAAAAAAAAAAAA\"\n         X=\"AAAAAAAAAAAAAAAAAAAAAAAAAAAAAAAA\"\n         X=\"AAAAAAAAAAAAAAAAAAAAAAAAAAAAAAAA\"\n         X=\"AAAAAAAAAAAAAAAAAAAAAAAAAAAAAAAA\"\n         X=\"AAAAAAAAAAAAAAAAAAAAAAAAAAAAAAAA\"\n         X=\"AAAAAAAAAAAAAAAAAAAAAAAAAAAAAAAA\"\n         X=\"AAAAAAAAAAAAAAAAAAAAAAAAAAAAAAAA\"\n         X=\"AAAAAAAAAAAAAAAAAAAAAAAAAAAAAAAA\"\n         X=\"AAAAAAAAAAAAAAAAAAAAAAAAAAAAAAAA\"\n         X=\"AAAAAAAAAAAAAAAAAAAAAAAAAAAAAAAA\"\n         X=\"AAAAAAAAAAAAAAAAAAAAAAAAAAAAAAAA\"\n         X=\"AAAAAAAAAAAAAAAAAAAAAAAAAAAAAAAA\"\n         X=\"AAAAAAAAAAAAAAAAAAAAAAAAAAAAAAAA\"\n         X=\"AAAAAAAAAAAAAAAAAAAAAAAAAAAAAAAA\"\n         X=\"AAAAAAAAAAAAAAAAAAAAAAAAAAAAAAAA\"\n         X=\"AAAAAAAAAAAAAAAAAAAAAAAAAAAAAAAA\"\n         X=\"AAAAAAAAAAAAAAAAAAAAAAAAAAAAAAAA\"\n         X=\"AAAAAAAAAAAAAAAAAAAAAAAAAAAAAAAA\"\n         X=\"AAAAAAAAAAAAAAAAAAAAAAAAAAAAAAAA\"\n         X=\"AAAAAAAAAAAAAAAAAAAAAAAAAAAAAAAA\"\n         X=\"AAAAAAAAAAAAAAAAAAAAAAAAAAAAAAAA\"\n         X=\"AAAAAAAAAAAAAAAAAAAAAAAAAAAAAAAA\"\n         X=\"AAAAAAAAAAAAAAAAAAAAAAAAAAAAAAAA\"\n         X=\"AAAAAAAAAAAAAAAAAAAAAAAAAAAAAAAA\"\n         X=\"AAAAAAAAAAAAAAAAAAAAAAAAAAAAAAAA\"\n         X=\"AAAAAAAAAAAAAAAAAAAAAAAAAAAAAAAA\"\n         X=\"AAAAAAAAAAAAAAAAAAAAAAAAAAAAAAAA\"\n         X=\"AAAAAAAAAAAAAAAAAAAAAAAAAAAAAAAA\"\n         X=\"AAAAAAAAAAAAAAAAAAAAAAAAAAAAAAAA\"\n         X=\"AAAAAAAAAAAAAAAAAAAAAAAAAAAAAAAA\"\n         X=\"AAAAAAAAAAAAAAAAAAAAAAAAAAAAAAAA\"\n         X=\"AAAAAAAAAAAAAAAAAAAAAAAAAAAAAAAA\"\n         X=\"AAAAAAAAAAAAAAAAAAAAAAAAAAAAAAAA\"\n         X=\"AAAAAAAAAAAAAAAAAAAAAAAAAAAAAAAA\"\n         X=\"AAAAAAAAAAAAAAAAAAAAAAAAAAAAAAAA\"\n         X=\"AAAAAAAAAAAAAAAAAAAAAAAAAAAAAAAA\"\n         X=\"AAAAAAAAAAAAAAAAAAAAAAAAAAAAAAAA\"\n         X=\"AAAAAAAAAAAAAAAAAAAAAAAAAAAAAAAA\"\n         X=\"AAAAAAAAAAAAAAAAAAAAAAAAAAAAAAAA\"\n         X=\"AAAAAAAAAAAAAAAAAAAAAAAAAAAAAAAA\"\n         X=\"AAAAAAAAAAAAAAAAAAAAAAAAAAAAAAAA\"\n         X=\"AAAAAAAAAAAAAAAAAAAAAAAAAAAAAAAA\"\n         X=\"AAAAAAAAAAAAAAAAAAAAAAAAAAAAAAAA\"\n         X=\"AAAAAAAAAAAAAAAAAAAAAAAAAAAAAAAA\"\n         X=\"AAAAAAAAAAAAAAAAAAAAAAAAAAAAAAAA\"\n         X=\"AAAAAAAAAAAAAAAAAAAAAAAAAAAAAAAA\"\n         X=\"AAAAAAAAAAAAAAAAAAAAAAAAAAAAAAAA\"\n         X=\"AAAAAAAAAAAAAAAAAAAAAAAAAAAAAAAA\"\n         X=\"AAAAAAAAAAAAAAAAAAAAAAAAAAAAAAAA\"\n         X=\"AAAAAAAAAAAAAAAAAAAAAAAAAAAAAAAA\"\n         X=\"AAAAAAAAAAAAAAAAAAAAAAAAAAAAAAAA\"\n         X=\"AAAAAAAAAAAAAAAAAAAAAAAAAAAAAAAA\"\n         X=\"AAAAAAAAAAAAAAAAAAAAAAAAAAAAAAAA\"\n         X=\"AAAAAAAAAAAAAAAAAAAAAAAAAAAAAAAA\"\n         X=\"AAAAAAAAAAAAAAAAAAAAAAAAAAAAAAAA\"\n         X=\"AAAAAAAAAAAAAAAAAAAAAAAAAAAAAAAA\"\n         X=\"AAAAAAAAAAAAAAAAAAAAAAAAAAAAAAAA\"\n         X=\"AAAAAAAAAAAAAAAAAAAAAAAAAAAAAAAA\"\n         X=\"AAAAAAAAAAAAAAAAAAAAAAAAAAAAAAAA\"\n         X=\"AAAAAAAAAAAAAAAAAAAAAAAAAAAAAAAA\"\n         X=\"AAAAAAAAAAAAAAAAAAAAAAAAAAAAAAAA\"\n         X=\"AAAAAAAAAAAAAAAAAAAAAAAAAAAAAAAA\"\n         X=\"AAAAAAAAAAAAAAAAAAAAAAAAAAAAAAAA\"\n         X=\"AAAAAAAAAAAAAAAAAAAAAAAAAAAAAAAA\"\n         X=\"AAAAAAAAAAAAAAAAAAAAAAAAAAAAAAAA\"\n         X=\"AAAAAAAAAAAAAAAAAAAAAAAAAAAAAAAA\"\n         X=\"AAAAAAAAAAAAAAAAAAAAAAAAAAAAAAAA\"\n         X=\"AAAAAAAAAAAAAAAAAAAAAAAAAAAAAAAA\"\n         X=\"AAAAAAAAAAAAAAAAAAAAAAAAAAAAAAAA\"\n         X=\"AAAAAAAAAAAAAAAAAAAAAAAAAAAAAAAA\"\n         X=\"AAAAAAAAAAAAAAAAAAAAAAAAAAAAAAAA\"\n         X=\"AAAAAAAAAAAAAAAAAAAAAAAAAAAAAAAA\"\n         X=\"AAAAAAAAAAAAAAAAAAAAAAAAAAAAAAAA\"\n         X=\"AAAAAAAAAAAAAAAAAAAAAAAAAAAAAAAA\"\n         X=\"AAAAAAAAAAAAAAAAAAAAAAAAAAAAAAAA\"\n         X=\"AAAAAAAAAAAAAAAAAAAAAAAAAAAAAAAA\"\n         X=\"AAAAAAAAAAAAAAAAAAAAAAAAAAAAAAAA\"\n         X=\"AAAAAAAAAAAAAAAAAAAAAAAAAAAAAAAA\"\n         X=\"AAAAAAAAAAAAAAAAAAAAAAAAAAAAAAAA\"\n         X=\"AAAAAAAAAAAAAAAAAAAAAAAAAAAAAAAA\"\n         X=\"AAAAAAAAAAAAAAAAAAAAAAAAAAAAAAAA\"\n         X=\"AAAAAAAAAAAAAAAAAAAAAAAAAAAAAAAA\"\n         X=\"AAAAAAAAAAAAAAAAAAAAAAAAAAAAAAAA\"\n         X=\"AAAAAAAAAAAAAAAAAAAAAAAAAAAAAAAA\"\n         X=\"AAAAAAAAAAAAAAAAAAAAAAAAAAAAAAAA\"\n         X=\"AAAAAAAAAAAAAAAAAAAAAAAAAAAAAAAA\"\n         X=\"AAAAAAAAAAAAAAAAAAAAAAAAAAAAAAAA\"\n         X=\"AAAAAAAAAAAAAAAAAAAAAAAAAAAAAAAA\"\n         X=\"AAAAAAAAAAAAAAAAAAAAAAAAAAAAAAAA\"\n         X=\"AAAAAAAAAAAAAAAAAAAAAAAAAAAAAAAA\"\n         X=\"AAAAAAAAAAAAAAAAAAAAAAAAAAAAAAAA\"\n         X=\"AAAAAAAAAAAAAAAAAAAAAAAAAAAAAAAA\"\n         X=\"AAAAAAAAAAAAAAAAAAAAAAAAAAAAAAAA\"\n         X=\"AAAAAAAAAAAAAAAAAAAAAAAAAAAAAAAA\"\n         X=\"AAAAAAAAAAAAAAAAAAAAAAAAAAAAAAAA\"\n         X=\"AAAAAAAAAAAAAAAAAAAAAAAAAAAAAAAA\"\n         X=\"AAAAAAAAAAAAAAAAAAAAAAAAAAAAAAAA\"\n         X=\"AAAAAAAAAAAAAAAAAAAAAAAAAAAAAAAA\"\n         X=\"AAAAAAAAAAAAAAAAAAAAAAAAAAAAAAAA\"\n         X=\"AAAAAAAAAAAAAAAAAAAAAAAAAAAAAAAA\"\n         X=\"AAAAAAAAAAAAAAAAAAAAAAAAAAAAAAAA\"\n         X=\"AAAAAAAAAAAAAAAAAAAAAAAAAAAAAAAA\"\n         X=\"AAAAAAAAAAAAAAAAAAAAAAAAAAAAAAAA\"\n         X=\"AAAAAAAAAAAAAAAAAAAAAAAAAAAAAAAA\"\n         X=\"AAAAAAAAAAAAAAAAAAAAAAAAAAAAAAAA\"\n         X=\"AAAAAAAAAAAAAAAAAAAAAAAAAAAAAAAA\"\n         X=\"AAAAAAAAAAAAAAAAAAAAAAAAAAAAAAAA\"\n         X=\"AAAAAAAAAAAAAAAAAAAAAAAAAAAAAAAA\"\n         X=\"AAAAAAAAAAAAAAAAAAAAAAAAAAAAAAAA\"\n         X=\"AAAAAAAAAAAAAAAAAAAAAAAAAAAAAAAA\"\n         X=\"AAAAAAAAAAAAAAAAAAAAAAAAAAAAAAAA\"\n         X=\"AAAAAAAAAAAAAAAAAAAAAAAAAAAAAAAA\"\n         X=\"AAAAAAAAAAAAAAAAAAAAAAAAAAAAAAAA\"\n         X=\"AAAAAAAAAAAAAAAAAAAAAAAAAAAAAAAA\"\n         X=\"AAAAAAAAAAAAAAAAAAAAAAAAAAAAAAAA\"\n         X=\"AAAAAAAAAAAAAAAAAAAAAAAAAAAAAAAA\"\n         X=\"AAAAAAAAAAAAAAAAAAAAAAAAAAAAAAAA\"\n         X=\"AAAAAAAAAAAAAAAAAAAAAAAAAAAAAAA\",\"\"\"\n         END\n" "" "step 1: n=0 notes=0 split=- trials=0 in=0 out=0 state=running next=3 held=[] numbers={} strings={X:4141414141414141414141414141414141414141414141414141414141414141}\nstep 2: n=0 notes=0 split=- trials=0 in=0 out=0 state=running next=4 held=[] numbers={} strings={X:4141414141414141414141414141414141414141414141414141414141414141}\nstep 3: n=0 notes=0 split=- trials=0 in=0 out=0 state=running next=5 held=[] numbers={} strings={X:4141414141414141414141414141414141414141414141414141414141414141}\nstep 4: n=0 notes=0 split=- trials=0 in=0 out=0 state=running next=6 held=[] numbers={} strings={X:4141414141414141414141414141414141414141414141414141414141414141}\nstep 5: n=0 notes=0 split=- trials=0 in=0 out=0 state=running next=7 held=[] numbers={} strings={X:4141414141414141414141414141414141414141414141414141414141414141}\nstep 6: n=0 notes=0 split=- trials=0 in=0 out=0 state=running next=8 held=[] numbers={} strings={X:4141414141414141414141414141414141414141414141414141414141414141}\nstep 7: n=0 notes=0 split=- trials=0 in=0 out=0 state=running next=9 held=[] numbers={} strings={X:4141414141414141414141414141414141414141414141414141414141414141}\nstep 8: n=0 notes=0 split=- trials=0 in=0 out=0 state=running next=10 held=[] numbers={} strings={X:4141414141414141414141414141414141414141414141414141414141414141}\nstep 9: n=0 notes=0 split=- trials=0 in=0 out=0 state=running next=11 held=[] numbers={} strings={X:4141414141414141414141414141414141414141414141414141414141414141}\nstep 10: n=0 notes=0 split=- trials=0 in=0 out=0 state=running next=12 held=[] numbers={} strings={X:4141414141414141414141414141414141414141414141414141414141414141}\nstep 11: n=0 notes=0 split=- trials=0 in=0 out=0 state=running next=13 held=[] numbers={} strings={X:4141414141414141414141414141414141414141414141414141414141414141}\nstep 12: n=0 notes=0 split=- trials=0 in=0 out=0 state=running next=14 held=[] numbers={} strings={X:4141414141414141414141414141414141414141414141414141414141414141}\nstep 13: n=0 notes=0 split=- trials=0 in=0 out=0 state=running next=15 held=[] numbers={} strings={X:4141414141414141414141414141414141414141414141414141414141414141}\nstep 14: n=0 notes=0 split=- trials=0 in=0 out=0 state=running next=16 held=[] numbers={} strings={X:4141414141414141414141414141414141414141414141414141414141414141}\nstep 15: n=0 notes=0 split=- trials=0 in=0 out=0 state=running next=17 held=[] numbers={} strings={X:4141414141414141414141414141414141414141414141414141414141414141}\nstep 16: n=0 notes=0 split=- trials=0 in=0 out=0 state=running next=18 held=[] numbers={} strings={X:4141414141414141414141414141414141414141414141414141414141414141}\nstep 17: n=0 notes=0 split=- trials=0 in=0 out=0 state=running next=19 held=[] numbers={} strings={X:4141414141414141414141414141414141414141414141414141414141414141}\nstep 18: n=0 notes=0 split=- trials=0 in=0 out=0 state=running next=20 held=[] numbers={} strings={X:4141414141414141414141414141414141414141414141414141414141414141}\nstep 19: n=0 notes=0 split=- trials=0 in=0 out=0 state=running next=21 held=[] numbers={} strings={X:4141414141414141414141414141414141414141414141414141414141414141}\nstep 20: n=0 notes=0 split=- trials=0 in=0 out=0 state=running next=22 held=[] numbers={} strings={X:4141414141414141414141414141414141414141414141414141414141414141}\nstep 21: n=0 notes=0 split=- trials=0 in=0 out=0 state=running next=23 held=[] numbers={} strings={X:4141414141414141414141414141414141414141414141414141414141414141}\nstep 22: n=0 notes=0 split=- trials=0 in=0 out=0 state=running next=24 held=[] numbers={} strings={X:4141414141414141414141414141414141414141414141414141414141414141}\nstep 23: n=0 notes=0 split=- trials=0 in=0 out=0 state=running next=25 held=[] numbers={} strings={X:4141414141414141414141414141414141414141414141414141414141414141}\nstep 24: n=0 notes=0 split=- trials=0 in=0 out=0 state=running next=26 held=[] numbers={} strings={X:4141414141414141414141414141414141414141414141414141414141414141}\nstep 25: n=0 notes=0 split=- trials=0 in=0 out=0 state=running next=27 held=[] numbers={} strings={X:4141414141414141414141414141414141414141414141414141414141414141}\nstep 26: n=0 notes=0 split=- trials=0 in=0 out=0 state=running next=28 held=[] numbers={} strings={X:4141414141414141414141414141414141414141414141414141414141414141}\nstep 27: n=0 notes=0 split=- trials=0 in=0 out=0 state=running next=29 held=[] numbers={} strings={X:4141414141414141414141414141414141414141414141414141414141414141}\nstep 28: n=0 notes=0 split=- trials=0 in=0 out=0 state=running next=30 held=[] numbers={} strings={X:4141414141414141414141414141414141414141414141414141414141414141}\nstep 29: n=0 notes=0 split=- trials=0 in=0 out=0 state=running next=31 held=[] numbers={} strings={X:4141414141414141414141414141414141414141414141414141414141414141}\nstep 30: n=0 notes=0 split=- trials=0 in=0 out=0 state=running next=32 held=[] numbers={} strings={X:4141414141414141414141414141414141414141414141414141414141414141}\nstep 31: n=0 notes=0 split=- trials=0 in=0 out=0 state=running next=33 held=[] numbers={} strings={X:4141414141414141414141414141414141414141414141414141414141414141}\nstep 32: n=0 notes=0 split=- trials=0 in=0 out=0 state=running next=34 held=[] numbers={} strings={X:4141414141414141414141414141414141414141414141414141414141414141}\nstep 33: n=0 notes=0 split=- trials=0 in=0 out=0 state=running next=35 held=[] numbers={} strings={X:4141414141414141414141414141414141414141414141414141414141414141}\nstep 34: n=0 notes=0 split=- trials=0 in=0 out=0 state=running next=36 held=[] numbers={} strings={X:4141414141414141414141414141414141414141414141414141414141414141}\nstep 35: n=0 notes=0 split=- trials=0 in=0 out=0 state=running next=37 held=[] numbers={} strings={X:4141414141414141414141414141414141414141414141414141414141414141}\nstep 36: n=0 notes=0 split=- trials=0 in=0 out=0 state=running next=38 held=[] numbers={} strings={X:4141414141414141414141414141414141414141414141414141414141414141}\nstep 37: n=0 notes=0 split=- trials=0 in=0 out=0 state=running next=39 held=[] numbers={} strings={X:4141414141414141414141414141414141414141414141414141414141414141}\nstep 38: n=0 notes=0 split=- trials=0 in=0 out=0 state=running next=40 held=[] numbers={} strings={X:4141414141414141414141414141414141414141414141414141414141414141}\nstep 39: n=0 notes=0 split=- trials=0 in=0 out=0 state=running next=41 held=[] numbers={} strings={X:4141414141414141414141414141414141414141414141414141414141414141}\nstep 40: n=0 notes=0 split=- trials=0 in=0 out=0 state=running next=42 held=[] numbers={} strings={X:4141414141414141414141414141414141414141414141414141414141414141}\nstep 41: n=0 notes=0 split=- trials=0 in=0 out=0 state=running next=43 held=[] numbers={} strings={X:4141414141414141414141414141414141414141414141414141414141414141}\nstep 42: n=0 notes=0 split=- trials=0 in=0 out=0 state=running next=44 held=[] numbers={} strings={X:4141414141414141414141414141414141414141414141414141414141414141}\nstep 43: n=0 notes=0 split=- trials=0 in=0 out=0 state=running next=45 held=[] numbers={} strings={X:4141414141414141414141414141414141414141414141414141414141414141}\nstep 44: n=0 notes=0 split=- trials=0 in=0 out=0 state=running next=46 held=[] numbers={} strings={X:4141414141414141414141414141414141414141414141414141414141414141}\nstep 45: n=0 notes=0 split=- trials=0 in=0 out=0 state=running next=47 held=[] numbers={} strings={X:4141414141414141414141414141414141414141414141414141414141414141}\nstep 46: n=0 notes=0 split=- trials=0 in=0 out=0 state=running next=48 held=[] numbers={} strings={X:4141414141414141414141414141414141414141414141414141414141414141}\nstep 47: n=0 notes=0 split=- trials=0 in=0 out=0 state=running next=49 held=[] numbers={} strings={X:4141414141414141414141414141414141414141414141414141414141414141}\nstep 48: n=0 notes=0 split=- trials=0 in=0 out=0 state=running next=50 held=[] numbers={} strings={X:4141414141414141414141414141414141414141414141414141414141414141}\nstep 49: n=0 notes=0 split=- trials=0 in=0 out=0 state=running next=51 held=[] numbers={} strings={X:4141414141414141414141414141414141414141414141414141414141414141}\nstep 50: n=0 notes=0 split=- trials=0 in=0 out=0 state=running next=52 held=[] numbers={} strings={X:4141414141414141414141414141414141414141414141414141414141414141}\nstep 51: n=0 notes=0 split=- trials=0 in=0 out=0 state=running next=53 held=[] numbers={} strings={X:4141414141414141414141414141414141414141414141414141414141414141}\nstep 52: n=0 notes=0 split=- trials=0 in=0 out=0 state=running next=54 held=[] numbers={} strings={X:4141414141414141414141414141414141414141414141414141414141414141}\nstep 53: n=0 notes=0 split=- trials=0 in=0 out=0 state=running next=55 held=[] numbers={} strings={X:4141414141414141414141414141414141414141414141414141414141414141}\nstep 54: n=0 notes=0 split=- trials=0 in=0 out=0 state=running next=56 held=[] numbers={} strings={X:4141414141414141414141414141414141414141414141414141414141414141}\nstep 55: n=0 notes=0 split=- trials=0 in=0 out=0 state=running next=57 held=[] numbers={} strings={X:4141414141414141414141414141414141414141414141414141414141414141}\nstep 56: n=0 notes=0 split=- trials=0 in=0 out=0 state=running next=58 held=[] numbers={} strings={X:4141414141414141414141414141414141414141414141414141414141414141}\nstep 57: n=0 notes=0 split=- trials=0 in=0 out=0 state=running next=59 held=[] numbers={} strings={X:4141414141414141414141414141414141414141414141414141414141414141}\nstep 58: n=0 notes=0 split=- trials=0 in=0 out=0 state=running next=60 held=[] numbers={} strings={X:4141414141414141414141414141414141414141414141414141414141414141}\nstep 59: n=0 notes=0 split=- trials=0 in=0 out=0 state=running next=61 held=[] numbers={} strings={X:4141414141414141414141414141414141414141414141414141414141414141}\nstep 60: n=0 notes=0 split=- trials=0 in=0 out=0 state=running next=62 held=[] numbers={} strings={X:4141414141414141414141414141414141414141414141414141414141414141}\n" "FINISHED,0,129,0\n" ≡ true
unfolding agrees_whole
r57 = refl

r58 : agrees "         PROGRAM T\n         GO TO L\n         ROUTINE R\nL        ENDROUTINE\n         END\n" "" "REFUSED 11 0\n" ≡ true
unfolding agrees
r58 = refl

r59 : agrees "         PROGRAM T\nL        ROUTINE R\n         GO TO L\n         ENDROUTINE\n         END\n" "" "REFUSED 11 0\n" ≡ true
unfolding agrees
r59 = refl

r60 : agrees "         PROGRAM T\n         ROUTINE R\n         RETURN\n         EXECUTE R\n         ENDROUTINE\n         END\n" "" "REFUSED 12 0\n" ≡ true
unfolding agrees
r60 = refl
