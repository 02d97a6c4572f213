-- Decks with their inputs and traces. Assumes nothing.
use Rattle.std.specs.Prelude.{true, ◌≡◌, refl}
use Rattle.vectors.specs.Trace.{agrees, agrees_whole}

v029 : agrees "         PROGRAM LOTS\n        *N  UMB  ER N\n        *,M,NU MBE  R\n         ,K9,COU NT\n L2      LINE=\"A\"\nLOOP     S1=S  TRING(N),BACK  S CAN ,\"1\"\n DONE    S1=\" AA1A\"\nL1       SCAN BACKSCAN[]=\"1B\"\nX9       I F(NUMERI C(F)  )/,L2\nL3       END\n" "  1-22\n 10AAA\n" "step 1: n=0 notes=0 split=- trials=0 in=0 out=0 state=running next=6 held=[] numbers={N:0,M:0,NUMBER:0,K9:0,COUNT:0} strings={LINE:41,S1:,BACKSCAN:,F:}\nstep 2: n=0 notes=0 split=- trials=0 in=0 out=0 state=running next=7 held=[] numbers={N:0,M:0,NUMBER:0,K9:0,COUNT:0} strings={LINE:41,S1:3031,BACKSCAN:,F:}\nstep 3: n=0 notes=0 split=- trials=0 in=0 out=0 state=running next=8 held=[] numbers={N:0,M:0,NUMBER:0,K9:0,COUNT:0} strings={LINE:41,S1:2041413141,BACKSCAN:,F:}\nstep 4: n=0 notes=0 split=0; trials=0 in=0 out=0 state=running next=9 held=[] numbers={N:0,M:0,NUMBER:0,K9:0,COUNT:0} strings={LINE:41,S1:2041413141,BACKSCAN:3142,F:}\nstep 5: n=0 notes=0 split=- trials=0 in=0 out=0 state=running next=5 held=[] numbers={N:0,M:0,NUMBER:0,K9:0,COUNT:0} strings={LINE:41,S1:2041413141,BACKSCAN:3142,F:}\nstep 6: n=0 notes=0 split=- trials=0 in=0 out=0 state=running next=6 held=[] numbers={N:0,M:0,NUMBER:0,K9:0,COUNT:0} strings={LINE:41,S1:2041413141,BACKSCAN:3142,F:}\nstep 7: n=0 notes=0 split=- trials=0 in=0 out=0 state=running next=7 held=[] numbers={N:0,M:0,NUMBER:0,K9:0,COUNT:0} strings={LINE:41,S1:30314231,BACKSCAN:3142,F:}\nstep 8: n=0 notes=0 split=- trials=0 in=0 out=0 state=running next=8 held=[] numbers={N:0,M:0,NUMBER:0,K9:0,COUNT:0} strings={LINE:41,S1:2041413141,BACKSCAN:3142,F:}\nstep 9: n=0 notes=0 split=0; trials=0 in=0 out=0 state=running next=9 held=[] numbers={N:0,M:0,NUMBER:0,K9:0,COUNT:0} strings={LINE:41,S1:2041413141,BACKSCAN:31423142,F:}\nstep 10: n=0 notes=0 split=- trials=0 in=0 out=0 state=running next=5 held=[] numbers={N:0,M:0,NUMBER:0,K9:0,COUNT:0} strings={LINE:41,S1:2041413141,BACKSCAN:31423142,F:}\nstep 11: n=0 notes=0 split=- trials=0 in=0 out=0 state=running next=6 held=[] numbers={N:0,M:0,NUMBER:0,K9:0,COUNT:0} strings={LINE:41,S1:2041413141,BACKSCAN:31423142,F:}\nstep 12: n=0 notes=0 split=- trials=0 in=0 out=0 state=running next=7 held=[] numbers={N:0,M:0,NUMBER:0,K9:0,COUNT:0} strings={LINE:41,S1:303142314231,BACKSCAN:31423142,F:}\nstep 13: n=0 notes=0 split=- trials=0 in=0 out=0 state=running next=8 held=[] numbers={N:0,M:0,NUMBER:0,K9:0,COUNT:0} strings={LINE:41,S1:2041413141,BACKSCAN:31423142,F:}\nstep 14: n=0 notes=0 split=0; trials=0 in=0 out=0 state=running next=9 held=[] numbers={N:0,M:0,NUMBER:0,K9:0,COUNT:0} strings={LINE:41,S1:2041413141,BACKSCAN:314231423142,F:}\nstep 15: n=0 notes=0 split=- trials=0 in=0 out=0 state=running next=5 held=[] numbers={N:0,M:0,NUMBER:0,K9:0,COUNT:0} strings={LINE:41,S1:2041413141,BACKSCAN:314231423142,F:}\nstep 16: n=0 notes=0 split=- trials=0 in=0 out=0 state=running next=6 held=[] numbers={N:0,M:0,NUMBER:0,K9:0,COUNT:0} strings={LINE:41,S1:2041413141,BACKSCAN:314231423142,F:}\nstep 17: n=0 notes=0 split=- trials=0 in=0 out=0 state=running next=7 held=[] numbers={N:0,M:0,NUMBER:0,K9:0,COUNT:0} strings={LINE:41,S1:3031423142314231,BACKSCAN:314231423142,F:}\nstep 18: n=0 notes=0 split=- trials=0 in=0 out=0 state=running next=8 held=[] numbers={N:0,M:0,NUMBER:0,K9:0,COUNT:0} strings={LINE:41,S1:2041413141,BACKSCAN:314231423142,F:}\nstep 19: n=0 notes=0 split=0; trials=0 in=0 out=0 state=running next=9 held=[] numbers={N:0,M:0,NUMBER:0,K9:0,COUNT:0} strings={LINE:41,S1:2041413141,BACKSCAN:3142314231423142,F:}\nstep 20: n=0 notes=0 split=- trials=0 in=0 out=0 state=running next=5 held=[] numbers={N:0,M:0,NUMBER:0,K9:0,COUNT:0} strings={LINE:41,S1:2041413141,BACKSCAN:3142314231423142,F:}\nstep 21: n=0 notes=0 split=- trials=0 in=0 out=0 state=running next=6 held=[] numbers={N:0,M:0,NUMBER:0,K9:0,COUNT:0} strings={LINE:41,S1:2041413141,BACKSCAN:3142314231423142,F:}\nstep 22: n=0 notes=0 split=- trials=0 in=0 out=0 state=running next=7 held=[] numbers={N:0,M:0,NUMBER:0,K9:0,COUNT:0} strings={LINE:41,S1:30314231423142314231,BACKSCAN:3142314231423142,F:}\nstep 23: n=0 notes=0 split=- trials=0 in=0 out=0 state=running next=8 held=[] numbers={N:0,M:0,NUMBER:0,K9:0,COUNT:0} strings={LINE:41,S1:2041413141,BACKSCAN:3142314231423142,F:}\nstep 24: n=0 notes=0 split=0; trials=0 in=0 out=0 state=running next=9 held=[] numbers={N:0,M:0,NUMBER:0,K9:0,COUNT:0} strings={LINE:41,S1:2041413141,BACKSCAN:31423142314231423142,F:}\nstep 25: n=0 notes=0 split=- trials=0 in=0 out=0 state=running next=5 held=[] numbers={N:0,M:0,NUMBER:0,K9:0,COUNT:0} strings={LINE:41,S1:2041413141,BACKSCAN:31423142314231423142,F:}\nstep 26: n=0 notes=0 split=- trials=0 in=0 out=0 state=running next=6 held=[] numbers={N:0,M:0,NUMBER:0,K9:0,COUNT:0} strings={LINE:41,S1:2041413141,BACKSCAN:31423142314231423142,F:}\nstep 27: n=0 notes=0 split=- trials=0 in=0 out=0 state=running next=7 held=[] numbers={N:0,M:0,NUMBER:0,K9:0,COUNT:0} strings={LINE:41,S1:303142314231423142314231,BACKSCAN:31423142314231423142,F:}\nstep 28: n=0 notes=0 split=- trials=0 in=0 out=0 state=running next=8 held=[] numbers={N:0,M:0,NUMBER:0,K9:0,COUNT:0} strings={LINE:41,S1:2041413141,BACKSCAN:31423142314231423142,F:}\nstep 29: n=0 notes=0 split=0; trials=0 in=0 out=0 state=running next=9 held=[] numbers={N:0,M:0,NUMBER:0,K9:0,COUNT:0} strings={LINE:41,S1:2041413141,BACKSCAN:314231423142314231423142,F:}\nstep 30: n=0 notes=0 split=- trials=0 in=0 out=0 state=running next=5 held=[] numbers={N:0,M:0,NUMBER:0,K9:0,COUNT:0} strings={LINE:41,S1:2041413141,BACKSCAN:314231423142314231423142,F:}\nstep 31: n=0 notes=0 split=- trials=0 in=0 out=0 state=running next=6 held=[] numbers={N:0,M:0,NUMBER:0,K9:0,COUNT:0} strings={LINE:41,S1:2041413141,BACKSCAN:314231423142314231423142,F:}\nstep 32: n=0 notes=0 split=- trials=0 in=0 out=0 state=running next=7 held=[] numbers={N:0,M:0,NUMBER:0,K9:0,COUNT:0} strings={LINE:41,S1:3031423142314231423142314231,BACKSCAN:314231423142314231423142,F:}\nstep 33: n=0 notes=0 split=- trials=0 in=0 out=0 state=running next=8 held=[] numbers={N:0,M:0,NUMBER:0,K9:0,COUNT:0} strings={LINE:41,S1:2041413141,BACKSCAN:314231423142314231423142,F:}\nstep 34: n=0 notes=0 split=0; trials=0 in=0 out=0 state=running next=9 held=[] numbers={N:0,M:0,NUMBER:0,K9:0,COUNT:0} strings={LINE:41,S1:2041413141,BACKSCAN:3142314231423142314231423142,F:}\nstep 35: n=0 notes=0 split=- trials=0 in=0 out=0 state=running next=5 held=[] numbers={N:0,M:0,NUMBER:0,K9:0,COUNT:0} strings={LINE:41,S1:2041413141,BACKSCAN:3142314231423142314231423142,F:}\nstep 36: n=0 notes=0 split=- trials=0 in=0 out=0 state=running next=6 held=[] numbers={N:0,M:0,NUMBER:0,K9:0,COUNT:0} strings={LINE:41,S1:2041413141,BACKSCAN:3142314231423142314231423142,F:}\nstep 37: n=0 notes=0 split=- trials=0 in=0 out=0 state=running next=7 held=[] numbers={N:0,M:0,NUMBER:0,K9:0,COUNT:0} strings={LINE:41,S1:30314231423142314231423142314231,BACKSCAN:3142314231423142314231423142,F:}\nstep 38: n=0 notes=0 split=- trials=0 in=0 out=0 state=running next=8 held=[] numbers={N:0,M:0,NUMBER:0,K9:0,COUNT:0} strings={LINE:41,S1:2041413141,BACKSCAN:3142314231423142314231423142,F:}\nstep 39: n=0 notes=0 split=0; trials=0 in=0 out=0 state=running next=9 held=[] numbers={N:0,M:0,NUMBER:0,K9:0,COUNT:0} strings={LINE:41,S1:2041413141,BACKSCAN:31423142314231423142314231423142,F:}\nstep 40: n=0 notes=0 split=- trials=0 in=0 out=0 state=running next=5 held=[] numbers={N:0,M:0,NUMBER:0,K9:0,COUNT:0} strings={LINE:41,S1:2041413141,BACKSCAN:31423142314231423142314231423142,F:}\nstep 41: n=0 notes=0 split=- trials=0 in=0 out=0 state=running next=6 held=[] numbers={N:0,M:0,NUMBER:0,K9:0,COUNT:0} strings={LINE:41,S1:2041413141,BACKSCAN:31423142314231423142314231423142,F:}\nstep 42: n=0 notes=0 split=- trials=0 in=0 out=0 state=running next=7 held=[] numbers={N:0,M:0,NUMBER:0,K9:0,COUNT:0} strings={LINE:41,S1:303142314231423142314231423142314231,BACKSCAN:31423142314231423142314231423142,F:}\nstep 43: n=0 notes=0 split=- trials=0 in=0 out=0 state=running next=8 held=[] numbers={N:0,M:0,NUMBER:0,K9:0,COUNT:0} strings={LINE:41,S1:2041413141,BACKSCAN:31423142314231423142314231423142,F:}\nstep 44: n=0 notes=0 split=0; trials=0 in=0 out=0 state=running next=9 held=[] numbers={N:0,M:0,NUMBER:0,K9:0,COUNT:0} strings={LINE:41,S1:2041413141,BACKSCAN:314231423142314231423142314231423142,F:}\nstep 45: n=0 notes=0 split=- trials=0 in=0 out=0 state=running next=5 held=[] numbers={N:0,M:0,NUMBER:0,K9:0,COUNT:0} strings={LINE:41,S1:2041413141,BACKSCAN:314231423142314231423142314231423142,F:}\nstep 46: n=0 notes=0 split=- trials=0 in=0 out=0 state=running next=6 held=[] numbers={N:0,M:0,NUMBER:0,K9:0,COUNT:0} strings={LINE:41,S1:2041413141,BACKSCAN:314231423142314231423142314231423142,F:}\nstep 47: n=0 notes=0 split=- trials=0 in=0 out=0 state=running next=7 held=[] numbers={N:0,M:0,NUMBER:0,K9:0,COUNT:0} strings={LINE:41,S1:3031423142314231423142314231423142314231,BACKSCAN:314231423142314231423142314231423142,F:}\nstep 48: n=0 notes=0 split=- trials=0 in=0 out=0 state=running next=8 held=[] numbers={N:0,M:0,NUMBER:0,K9:0,COUNT:0} strings={LINE:41,S1:2041413141,BACKSCAN:314231423142314231423142314231423142,F:}\nstep 49: n=0 notes=0 split=0; trials=0 in=0 out=0 state=running next=9 held=[] numbers={N:0,M:0,NUMBER:0,K9:0,COUNT:0} strings={LINE:41,S1:2041413141,BACKSCAN:3142314231423142314231423142314231423142,F:}\nstep 50: n=0 notes=0 split=- trials=0 in=0 out=0 state=running next=5 held=[] numbers={N:0,M:0,NUMBER:0,K9:0,COUNT:0} strings={LINE:41,S1:2041413141,BACKSCAN:3142314231423142314231423142314231423142,F:}\nstep 51: n=0 notes=0 split=- trials=0 in=0 out=0 state=running next=6 held=[] numbers={N:0,M:0,NUMBER:0,K9:0,COUNT:0} strings={LINE:41,S1:2041413141,BACKSCAN:3142314231423142314231423142314231423142,F:}\nstep 52: n=0 notes=0 split=- trials=0 in=0 out=0 state=running next=7 held=[] numbers={N:0,M:0,NUMBER:0,K9:0,COUNT:0} strings={LINE:41,S1:30314231423142314231423142314231423142314231,BACKSCAN:3142314231423142314231423142314231423142,F:}\nstep 53: n=0 notes=0 split=- trials=0 in=0 out=0 state=running next=8 held=[] numbers={N:0,M:0,NUMBER:0,K9:0,COUNT:0} strings={LINE:41,S1:2041413141,BACKSCAN:3142314231423142314231423142314231423142,F:}\nstep 54: n=0 notes=0 split=0; trials=0 in=0 out=0 state=running next=9 held=[] numbers={N:0,M:0,NUMBER:0,K9:0,COUNT:0} strings={LINE:41,S1:2041413141,BACKSCAN:31423142314231423142314231423142314231423142,F:}\nstep 55: n=0 notes=0 split=- trials=0 in=0 out=0 state=running next=5 held=[] numbers={N:0,M:0,NUMBER:0,K9:0,COUNT:0} strings={LINE:41,S1:2041413141,BACKSCAN:31423142314231423142314231423142314231423142,F:}\nstep 56: n=0 notes=0 split=- trials=0 in=0 out=0 state=running next=6 held=[] numbers={N:0,M:0,NUMBER:0,K9:0,COUNT:0} strings={LINE:41,S1:2041413141,BACKSCAN:31423142314231423142314231423142314231423142,F:}\nstep 57: n=0 notes=0 split=- trials=0 in=0 out=0 state=running next=7 held=[] numbers={N:0,M:0,NUMBER:0,K9:0,COUNT:0} strings={LINE:41,S1:303142314231423142314231423142314231423142314231,BACKSCAN:31423142314231423142314231423142314231423142,F:}\nstep 58: n=0 notes=0 split=- trials=0 in=0 out=0 state=running next=8 held=[] numbers={N:0,M:0,NUMBER:0,K9:0,COUNT:0} strings={LINE:41,S1:2041413141,BACKSCAN:31423142314231423142314231423142314231423142,F:}\nstep 59: n=0 notes=0 split=0; trials=0 in=0 out=0 state=running next=9 held=[] numbers={N:0,M:0,NUMBER:0,K9:0,COUNT:0} strings={LINE:41,S1:2041413141,BACKSCAN:314231423142314231423142314231423142314231423142,F:}\nstep 60: n=0 notes=0 split=- trials=0 in=0 out=0 state=running next=5 held=[] numbers={N:0,M:0,NUMBER:0,K9:0,COUNT:0} strings={LINE:41,S1:2041413141,BACKSCAN:314231423142314231423142314231423142314231423142,F:}\n" ≡ true
unfolding agrees
v029 = refl

v030 : agrees "         PROGRAM TEST1\n         NUMBER N,M,I,K9                                                SEQ94550\n         B=\"A1\",A,A$5,\"21\"\nX9       ROUTINE R2\n L3      S  CA N B$I[(A),STRING( 0,N ),(  A),(A$3)]=A/L3\n         ENDROUTINE\n         RO  UTIN  E R1\n* COMMENT 0\n\n         SCAN  B[(A ),  (A)]=\"A1\"/ LOO P\nL1       READ A$M\nDONE     READ A$N/L 1\n LOOP    GOTO   DONE\n         ENDROUTINE\nL2       GOTO X9\n        1BACKSCAN B$0[(A),(A$N),\"A2, AA2 ,A, \",STRING(1,I),(A),(A),(A)]=SEQ98629\n         \"AB\"/,X9\n         END\n" "" "step 1: n=0 notes=0 split=- trials=0 in=0 out=0 state=running next=4 held=[] numbers={N:0,M:0,I:0,K9:0} strings={B:41313231,A:}\nstep 2: n=0 notes=0 split=- trials=0 in=0 out=0 state=running next=7 held=[] numbers={N:0,M:0,I:0,K9:0} strings={B:41313231,A:}\nstep 3: n=0 notes=0 split=- trials=0 in=0 out=0 state=running next=15 held=[] numbers={N:0,M:0,I:0,K9:0} strings={B:41313231,A:}\nstep 4: n=0 notes=0 split=- trials=0 in=0 out=0 state=running next=4 held=[] numbers={N:0,M:0,I:0,K9:0} strings={B:41313231,A:}\nstep 5: n=0 notes=0 split=- trials=0 in=0 out=0 state=running next=7 held=[] numbers={N:0,M:0,I:0,K9:0} strings={B:41313231,A:}\nstep 6: n=0 notes=0 split=- trials=0 in=0 out=0 state=running next=15 held=[] numbers={N:0,M:0,I:0,K9:0} strings={B:41313231,A:}\nstep 7: n=0 notes=0 split=- trials=0 in=0 out=0 state=running next=4 held=[] numbers={N:0,M:0,I:0,K9:0} strings={B:41313231,A:}\nstep 8: n=0 notes=0 split=- trials=0 in=0 out=0 state=running next=7 held=[] numbers={N:0,M:0,I:0,K9:0} strings={B:41313231,A:}\nstep 9: n=0 notes=0 split=- trials=0 in=0 out=0 state=running next=15 held=[] numbers={N:0,M:0,I:0,K9:0} strings={B:41313231,A:}\nstep 10: n=0 notes=0 split=- trials=0 in=0 out=0 state=running next=4 held=[] numbers={N:0,M:0,I:0,K9:0} strings={B:41313231,A:}\nstep 11: n=0 notes=0 split=- trials=0 in=0 out=0 state=running next=7 held=[] numbers={N:0,M:0,I:0,K9:0} strings={B:41313231,A:}\nstep 12: n=0 notes=0 split=- trials=0 in=0 out=0 state=running next=15 held=[] numbers={N:0,M:0,I:0,K9:0} strings={B:41313231,A:}\nstep 13: n=0 notes=0 split=- trials=0 in=0 out=0 state=running next=4 held=[] numbers={N:0,M:0,I:0,K9:0} strings={B:41313231,A:}\nstep 14: n=0 notes=0 split=- trials=0 in=0 out=0 state=running next=7 held=[] numbers={N:0,M:0,I:0,K9:0} strings={B:41313231,A:}\nstep 15: n=0 notes=0 split=- trials=0 in=0 out=0 state=running next=15 held=[] numbers={N:0,M:0,I:0,K9:0} strings={B:41313231,A:}\nstep 16: n=0 notes=0 split=- trials=0 in=0 out=0 state=running next=4 held=[] numbers={N:0,M:0,I:0,K9:0} strings={B:41313231,A:}\nstep 17: n=0 notes=0 split=- trials=0 in=0 out=0 state=running next=7 held=[] numbers={N:0,M:0,I:0,K9:0} strings={B:41313231,A:}\nstep 18: n=0 notes=0 split=- trials=0 in=0 out=0 state=running next=15 held=[] numbers={N:0,M:0,I:0,K9:0} strings={B:41313231,A:}\nstep 19: n=0 notes=0 split=- trials=0 in=0 out=0 state=running next=4 held=[] numbers={N:0,M:0,I:0,K9:0} strings={B:41313231,A:}\nstep 20: n=0 notes=0 split=- trials=0 in=0 out=0 state=running next=7 held=[] numbers={N:0,M:0,I:0,K9:0} strings={B:41313231,A:}\nstep 21: n=0 notes=0 split=- trials=0 in=0 out=0 state=running next=15 held=[] numbers={N:0,M:0,I:0,K9:0} strings={B:41313231,A:}\nstep 22: n=0 notes=0 split=- trials=0 in=0 out=0 state=running next=4 held=[] numbers={N:0,M:0,I:0,K9:0} strings={B:41313231,A:}\nstep 23: n=0 notes=0 split=- trials=0 in=0 out=0 state=running next=7 held=[] numbers={N:0,M:0,I:0,K9:0} strings={B:41313231,A:}\nstep 24: n=0 notes=0 split=- trials=0 in=0 out=0 state=running next=15 held=[] numbers={N:0,M:0,I:0,K9:0} strings={B:41313231,A:}\nstep 25: n=0 notes=0 split=- trials=0 in=0 out=0 state=running next=4 held=[] numbers={N:0,M:0,I:0,K9:0} strings={B:41313231,A:}\nstep 26: n=0 notes=0 split=- trials=0 in=0 out=0 state=running next=7 held=[] numbers={N:0,M:0,I:0,K9:0} strings={B:41313231,A:}\nstep 27: n=0 notes=0 split=- trials=0 in=0 out=0 state=running next=15 held=[] numbers={N:0,M:0,I:0,K9:0} strings={B:41313231,A:}\nstep 28: n=0 notes=0 split=- trials=0 in=0 out=0 state=running next=4 held=[] numbers={N:0,M:0,I:0,K9:0} strings={B:41313231,A:}\nstep 29: n=0 notes=0 split=- trials=0 in=0 out=0 state=running next=7 held=[] numbers={N:0,M:0,I:0,K9:0} strings={B:41313231,A:}\nstep 30: n=0 notes=0 split=- trials=0 in=0 out=0 state=running next=15 held=[] numbers={N:0,M:0,I:0,K9:0} strings={B:41313231,A:}\nstep 31: n=0 notes=0 split=- trials=0 in=0 out=0 state=running next=4 held=[] numbers={N:0,M:0,I:0,K9:0} strings={B:41313231,A:}\nstep 32: n=0 notes=0 split=- trials=0 in=0 out=0 state=running next=7 held=[] numbers={N:0,M:0,I:0,K9:0} strings={B:41313231,A:}\nstep 33: n=0 notes=0 split=- trials=0 in=0 out=0 state=running next=15 held=[] numbers={N:0,M:0,I:0,K9:0} strings={B:41313231,A:}\nstep 34: n=0 notes=0 split=- trials=0 in=0 out=0 state=running next=4 held=[] numbers={N:0,M:0,I:0,K9:0} strings={B:41313231,A:}\nstep 35: n=0 notes=0 split=- trials=0 in=0 out=0 state=running next=7 held=[] numbers={N:0,M:0,I:0,K9:0} strings={B:41313231,A:}\nstep 36: n=0 notes=0 split=- trials=0 in=0 out=0 state=running next=15 held=[] numbers={N:0,M:0,I:0,K9:0} strings={B:41313231,A:}\nstep 37: n=0 notes=0 split=- trials=0 in=0 out=0 state=running next=4 held=[] numbers={N:0,M:0,I:0,K9:0} strings={B:41313231,A:}\nstep 38: n=0 notes=0 split=- trials=0 in=0 out=0 state=running next=7 held=[] numbers={N:0,M:0,I:0,K9:0} strings={B:41313231,A:}\nstep 39: n=0 notes=0 split=- trials=0 in=0 out=0 state=running next=15 held=[] numbers={N:0,M:0,I:0,K9:0} strings={B:41313231,A:}\nstep 40: n=0 notes=0 split=- trials=0 in=0 out=0 state=running next=4 held=[] numbers={N:0,M:0,I:0,K9:0} strings={B:41313231,A:}\nstep 41: n=0 notes=0 split=- trials=0 in=0 out=0 state=running next=7 held=[] numbers={N:0,M:0,I:0,K9:0} strings={B:41313231,A:}\nstep 42: n=0 notes=0 split=- trials=0 in=0 out=0 state=running next=15 held=[] numbers={N:0,M:0,I:0,K9:0} strings={B:41313231,A:}\nstep 43: n=0 notes=0 split=- trials=0 in=0 out=0 state=running next=4 held=[] numbers={N:0,M:0,I:0,K9:0} strings={B:41313231,A:}\nstep 44: n=0 notes=0 split=- trials=0 in=0 out=0 state=running next=7 held=[] numbers={N:0,M:0,I:0,K9:0} strings={B:41313231,A:}\nstep 45: n=0 notes=0 split=- trials=0 in=0 out=0 state=running next=15 held=[] numbers={N:0,M:0,I:0,K9:0} strings={B:41313231,A:}\nstep 46: n=0 notes=0 split=- trials=0 in=0 out=0 state=running next=4 held=[] numbers={N:0,M:0,I:0,K9:0} strings={B:41313231,A:}\nstep 47: n=0 notes=0 split=- trials=0 in=0 out=0 state=running next=7 held=[] numbers={N:0,M:0,I:0,K9:0} strings={B:41313231,A:}\nstep 48: n=0 notes=0 split=- trials=0 in=0 out=0 state=running next=15 held=[] numbers={N:0,M:0,I:0,K9:0} strings={B:41313231,A:}\nstep 49: n=0 notes=0 split=- trials=0 in=0 out=0 state=running next=4 held=[] numbers={N:0,M:0,I:0,K9:0} strings={B:41313231,A:}\nstep 50: n=0 notes=0 split=- trials=0 in=0 out=0 state=running next=7 held=[] numbers={N:0,M:0,I:0,K9:0} strings={B:41313231,A:}\nstep 51: n=0 notes=0 split=- trials=0 in=0 out=0 state=running next=15 held=[] numbers={N:0,M:0,I:0,K9:0} strings={B:41313231,A:}\nstep 52: n=0 notes=0 split=- trials=0 in=0 out=0 state=running next=4 held=[] numbers={N:0,M:0,I:0,K9:0} strings={B:41313231,A:}\nstep 53: n=0 notes=0 split=- trials=0 in=0 out=0 state=running next=7 held=[] numbers={N:0,M:0,I:0,K9:0} strings={B:41313231,A:}\nstep 54: n=0 notes=0 split=- trials=0 in=0 out=0 state=running next=15 held=[] numbers={N:0,M:0,I:0,K9:0} strings={B:41313231,A:}\nstep 55: n=0 notes=0 split=- trials=0 in=0 out=0 state=running next=4 held=[] numbers={N:0,M:0,I:0,K9:0} strings={B:41313231,A:}\nstep 56: n=0 notes=0 split=- trials=0 in=0 out=0 state=running next=7 held=[] numbers={N:0,M:0,I:0,K9:0} strings={B:41313231,A:}\nstep 57: n=0 notes=0 split=- trials=0 in=0 out=0 state=running next=15 held=[] numbers={N:0,M:0,I:0,K9:0} strings={B:41313231,A:}\nstep 58: n=0 notes=0 split=- trials=0 in=0 out=0 state=running next=4 held=[] numbers={N:0,M:0,I:0,K9:0} strings={B:41313231,A:}\nstep 59: n=0 notes=0 split=- trials=0 in=0 out=0 state=running next=7 held=[] numbers={N:0,M:0,I:0,K9:0} strings={B:41313231,A:}\nstep 60: n=0 notes=0 split=- trials=0 in=0 out=0 state=running next=15 held=[] numbers={N:0,M:0,I:0,K9:0} strings={B:41313231,A:}\n" ≡ true
unfolding agrees
v030 = refl

v031 : agrees "         PROGRAM P\n         NUMBER N,M,I\n         EXECUTE R2\n         B=B,S1,STRING(I),C\n         EXECUTE R2\n* COMMENT 1\nLOOP     READ B\n        1SCAN LI\n        XNE$N[\",\n        *A\",(C$M\nIGNORED  ),(A)]\n         B=C  \n        XBAC  KS  CA  N A[\"AAAA1\",\"2\n        +,2A,\",  ST RING(6,M)  ,(B)]\n         =\",B   \",  S1,C/L1\n         SCAN C[B$N,A$3,(B$N),(B$3)]=\"A\"\nDONE     ROU T  IN  E R1  \nL2       ENDROUTINE\nL1       ROUTINE R2\nX9       ENDROUTINE\n         SC AN   LINE[(C)]\n         R OUTINE R3 \nL3       READ(60) A/,L3                                                 SEQ19335\n         A=A,A,STRING(M)\n         C=C$0\n         ENDROUTINE\n         GOTO LOOP\n         END  \n" "A\nB\nAA0A -12A,A A0-0 A-AB+-+,0--221AA+00+,-A\n0,2B21 +0-,1+ ,22B,BA,2,AA0,12,B1 ,A1000\n\n2\n-\n2ABB-1,AB++1+1A-A 10-0 0ABB0A0B 1-+12--+\n" "step 1: n=0 notes=0 split=- trials=0 in=0 out=0 state=running next=20 held=[4] numbers={N:0,M:0,I:0} strings={B:,S1:,C:,LINE:,A:}\nstep 2: n=0 notes=0 split=- trials=0 in=0 out=0 state=running next=4 held=[] numbers={N:0,M:0,I:0} strings={B:,S1:,C:,LINE:,A:}\nstep 3: n=0 notes=0 split=- trials=0 in=0 out=0 state=running next=5 held=[] numbers={N:0,M:0,I:0} strings={B:30,S1:,C:,LINE:,A:}\nstep 4: n=0 notes=0 split=- trials=0 in=0 out=0 state=running next=20 held=[7] numbers={N:0,M:0,I:0} strings={B:30,S1:,C:,LINE:,A:}\nstep 5: n=0 notes=0 split=- trials=0 in=0 out=0 state=running next=7 held=[] numbers={N:0,M:0,I:0} strings={B:30,S1:,C:,LINE:,A:}\nstep 6: n=0 notes=0 split=- trials=0 in=2 out=0 state=running next=8 held=[] numbers={N:0,M:0,I:0} strings={B:41,S1:,C:,LINE:,A:}\nstep 7: n=0 notes=0 split=- trials=1 in=2 out=0 state=running next=12 held=[] numbers={N:0,M:0,I:0} strings={B:41,S1:,C:,LINE:,A:}\nstep 8: n=0 notes=0 split=- trials=0 in=2 out=0 state=running next=13 held=[] numbers={N:0,M:0,I:0} strings={B:,S1:,C:,LINE:,A:}\nstep 9: n=0 notes=0 split=- trials=1 in=2 out=0 state=running next=16 held=[] numbers={N:0,M:0,I:0} strings={B:,S1:,C:,LINE:,A:}\nstep 10: n=0 notes=0 split=- trials=4 in=2 out=0 state=running next=17 held=[] numbers={N:0,M:0,I:0} strings={B:,S1:,C:,LINE:,A:}\nstep 11: n=0 notes=0 split=- trials=0 in=2 out=0 state=running next=19 held=[] numbers={N:0,M:0,I:0} strings={B:,S1:,C:,LINE:,A:}\nstep 12: n=0 notes=0 split=- trials=0 in=2 out=0 state=running next=21 held=[] numbers={N:0,M:0,I:0} strings={B:,S1:,C:,LINE:,A:}\nstep 13: n=0 notes=0 split=0;0 trials=0 in=2 out=0 state=running next=22 held=[] numbers={N:0,M:0,I:0} strings={B:,S1:,C:,LINE:,A:}\nstep 14: n=0 notes=0 split=- trials=0 in=2 out=0 state=running next=27 held=[] numbers={N:0,M:0,I:0} strings={B:,S1:,C:,LINE:,A:}\nstep 15: n=0 notes=0 split=- trials=0 in=2 out=0 state=running next=7 held=[] numbers={N:0,M:0,I:0} strings={B:,S1:,C:,LINE:,A:}\nstep 16: n=0 notes=0 split=- trials=0 in=4 out=0 state=running next=8 held=[] numbers={N:0,M:0,I:0} strings={B:42,S1:,C:,LINE:,A:}\nstep 17: n=0 notes=0 split=- trials=1 in=4 out=0 state=running next=12 held=[] numbers={N:0,M:0,I:0} strings={B:42,S1:,C:,LINE:,A:}\nstep 18: n=0 notes=0 split=- trials=0 in=4 out=0 state=running next=13 held=[] numbers={N:0,M:0,I:0} strings={B:,S1:,C:,LINE:,A:}\nstep 19: n=0 notes=0 split=- trials=1 in=4 out=0 state=running next=16 held=[] numbers={N:0,M:0,I:0} strings={B:,S1:,C:,LINE:,A:}\nstep 20: n=0 notes=0 split=- trials=4 in=4 out=0 state=running next=17 held=[] numbers={N:0,M:0,I:0} strings={B:,S1:,C:,LINE:,A:}\nstep 21: n=0 notes=0 split=- trials=0 in=4 out=0 state=running next=19 held=[] numbers={N:0,M:0,I:0} strings={B:,S1:,C:,LINE:,A:}\nstep 22: n=0 notes=0 split=- trials=0 in=4 out=0 state=running next=21 held=[] numbers={N:0,M:0,I:0} strings={B:,S1:,C:,LINE:,A:}\nstep 23: n=0 notes=0 split=0;0 trials=0 in=4 out=0 state=running next=22 held=[] numbers={N:0,M:0,I:0} strings={B:,S1:,C:,LINE:,A:}\nstep 24: n=0 notes=0 split=- trials=0 in=4 out=0 state=running next=27 held=[] numbers={N:0,M:0,I:0} strings={B:,S1:,C:,LINE:,A:}\nstep 25: n=0 notes=0 split=- trials=0 in=4 out=0 state=running next=7 held=[] numbers={N:0,M:0,I:0} strings={B:,S1:,C:,LINE:,A:}\nstep 26: n=0 notes=0 split=- trials=0 in=45 out=0 state=running next=8 held=[] numbers={N:0,M:0,I:0} strings={B:41413041202d3132412c412041302d3020412d41422b2d2b2c302d2d32323141412b30302b2c2d41,S1:,C:,LINE:,A:}\nstep 27: n=0 notes=0 split=- trials=1 in=45 out=0 state=running next=12 held=[] numbers={N:0,M:0,I:0} strings={B:41413041202d3132412c412041302d3020412d41422b2d2b2c302d2d32323141412b30302b2c2d41,S1:,C:,LINE:,A:}\nstep 28: n=0 notes=0 split=- trials=0 in=45 out=0 state=running next=13 held=[] numbers={N:0,M:0,I:0} strings={B:,S1:,C:,LINE:,A:}\nstep 29: n=0 notes=0 split=- trials=1 in=45 out=0 state=running next=16 held=[] numbers={N:0,M:0,I:0} strings={B:,S1:,C:,LINE:,A:}\nstep 30: n=0 notes=0 split=- trials=4 in=45 out=0 state=running next=17 held=[] numbers={N:0,M:0,I:0} strings={B:,S1:,C:,LINE:,A:}\nstep 31: n=0 notes=0 split=- trials=0 in=45 out=0 state=running next=19 held=[] numbers={N:0,M:0,I:0} strings={B:,S1:,C:,LINE:,A:}\nstep 32: n=0 notes=0 split=- trials=0 in=45 out=0 state=running next=21 held=[] numbers={N:0,M:0,I:0} strings={B:,S1:,C:,LINE:,A:}\nstep 33: n=0 notes=0 split=0;0 trials=0 in=45 out=0 state=running next=22 held=[] numbers={N:0,M:0,I:0} strings={B:,S1:,C:,LINE:,A:}\nstep 34: n=0 notes=0 split=- trials=0 in=45 out=0 state=running next=27 held=[] numbers={N:0,M:0,I:0} strings={B:,S1:,C:,LINE:,A:}\nstep 35: n=0 notes=0 split=- trials=0 in=45 out=0 state=running next=7 held=[] numbers={N:0,M:0,I:0} strings={B:,S1:,C:,LINE:,A:}\nstep 36: n=0 notes=0 split=- trials=0 in=86 out=0 state=running next=8 held=[] numbers={N:0,M:0,I:0} strings={B:302c32423231202b302d2c312b202c3232422c42412c322c4141302c31322c4231202c4131303030,S1:,C:,LINE:,A:}\nstep 37: n=0 notes=0 split=- trials=1 in=86 out=0 state=running next=12 held=[] numbers={N:0,M:0,I:0} strings={B:302c32423231202b302d2c312b202c3232422c42412c322c4141302c31322c4231202c4131303030,S1:,C:,LINE:,A:}\nstep 38: n=0 notes=0 split=- trials=0 in=86 out=0 state=running next=13 held=[] numbers={N:0,M:0,I:0} strings={B:,S1:,C:,LINE:,A:}\nstep 39: n=0 notes=0 split=- trials=1 in=86 out=0 state=running next=16 held=[] numbers={N:0,M:0,I:0} strings={B:,S1:,C:,LINE:,A:}\nstep 40: n=0 notes=0 split=- trials=4 in=86 out=0 state=running next=17 held=[] numbers={N:0,M:0,I:0} strings={B:,S1:,C:,LINE:,A:}\nstep 41: n=0 notes=0 split=- trials=0 in=86 out=0 state=running next=19 held=[] numbers={N:0,M:0,I:0} strings={B:,S1:,C:,LINE:,A:}\nstep 42: n=0 notes=0 split=- trials=0 in=86 out=0 state=running next=21 held=[] numbers={N:0,M:0,I:0} strings={B:,S1:,C:,LINE:,A:}\nstep 43: n=0 notes=0 split=0;0 trials=0 in=86 out=0 state=running next=22 held=[] numbers={N:0,M:0,I:0} strings={B:,S1:,C:,LINE:,A:}\nstep 44: n=0 notes=0 split=- trials=0 in=86 out=0 state=running next=27 held=[] numbers={N:0,M:0,I:0} strings={B:,S1:,C:,LINE:,A:}\nstep 45: n=0 notes=0 split=- trials=0 in=86 out=0 state=running next=7 held=[] numbers={N:0,M:0,I:0} strings={B:,S1:,C:,LINE:,A:}\nstep 46: n=0 notes=0 split=- trials=0 in=87 out=0 state=running next=8 held=[] numbers={N:0,M:0,I:0} strings={B:,S1:,C:,LINE:,A:}\nstep 47: n=0 notes=0 split=- trials=1 in=87 out=0 state=running next=12 held=[] numbers={N:0,M:0,I:0} strings={B:,S1:,C:,LINE:,A:}\nstep 48: n=0 notes=0 split=- trials=0 in=87 out=0 state=running next=13 held=[] numbers={N:0,M:0,I:0} strings={B:,S1:,C:,LINE:,A:}\nstep 49: n=0 notes=0 split=- trials=1 in=87 out=0 state=running next=16 held=[] numbers={N:0,M:0,I:0} strings={B:,S1:,C:,LINE:,A:}\nstep 50: n=0 notes=0 split=- trials=4 in=87 out=0 state=running next=17 held=[] numbers={N:0,M:0,I:0} strings={B:,S1:,C:,LINE:,A:}\nstep 51: n=0 notes=0 split=- trials=0 in=87 out=0 state=running next=19 held=[] numbers={N:0,M:0,I:0} strings={B:,S1:,C:,LINE:,A:}\nstep 52: n=0 notes=0 split=- trials=0 in=87 out=0 state=running next=21 held=[] numbers={N:0,M:0,I:0} strings={B:,S1:,C:,LINE:,A:}\nstep 53: n=0 notes=0 split=0;0 trials=0 in=87 out=0 state=running next=22 held=[] numbers={N:0,M:0,I:0} strings={B:,S1:,C:,LINE:,A:}\nstep 54: n=0 notes=0 split=- trials=0 in=87 out=0 state=running next=27 held=[] numbers={N:0,M:0,I:0} strings={B:,S1:,C:,LINE:,A:}\nstep 55: n=0 notes=0 split=- trials=0 in=87 out=0 state=running next=7 held=[] numbers={N:0,M:0,I:0} strings={B:,S1:,C:,LINE:,A:}\nstep 56: n=0 notes=0 split=- trials=0 in=89 out=0 state=running next=8 held=[] numbers={N:0,M:0,I:0} strings={B:32,S1:,C:,LINE:,A:}\nstep 57: n=0 notes=0 split=- trials=1 in=89 out=0 state=running next=12 held=[] numbers={N:0,M:0,I:0} strings={B:32,S1:,C:,LINE:,A:}\nstep 58: n=0 notes=0 split=- trials=0 in=89 out=0 state=running next=13 held=[] numbers={N:0,M:0,I:0} strings={B:,S1:,C:,LINE:,A:}\nstep 59: n=0 notes=0 split=- trials=1 in=89 out=0 state=running next=16 held=[] numbers={N:0,M:0,I:0} strings={B:,S1:,C:,LINE:,A:}\nstep 60: n=0 notes=0 split=- trials=4 in=89 out=0 state=running next=17 held=[] numbers={N:0,M:0,I:0} strings={B:,S1:,C:,LINE:,A:}\n" ≡ true
unfolding agrees
v031 = refl

v032 : agrees "         PROGRAM LOTS\n         N  U  MBER  N,M ,I ,IF,COUNT\nL2       BACK  S  C AN  B[(STRING )]=  S1/X9\n* COMMENT 6\nX9       S  TRING=S  TRING( 8,COUNT),S1\nDONE     READ   B $0\nLOOP     STRING =B,  S1\n* COMMENT 4\nL1      CSCAN STRI\n        *NG$1[STRI\n        CNG,(B),(A\n        X),S1,\"2\",\n        X(B$3),LIN\n         E]/,X9\nL3       END\n" "B1A01,\nAAAA+-00-1--" "step 1: n=0 notes=0 split=0;0 trials=0 in=0 out=0 state=running next=5 held=[] numbers={N:0,M:0,I:0,IF:0,COUNT:0} strings={B:,STRING:,S1:,A:,LINE:}\nstep 2: n=0 notes=0 split=- trials=0 in=0 out=0 state=running next=6 held=[] numbers={N:0,M:0,I:0,IF:0,COUNT:0} strings={B:,STRING:3030303030303030,S1:,A:,LINE:}\nstep 3: n=0 notes=0 split=- trials=0 in=0 out=0 state=running next=7 held=[] numbers={N:0,M:0,I:0,IF:0,COUNT:0} strings={B:,STRING:3030303030303030,S1:,A:,LINE:}\nstep 4: n=0 notes=0 split=- trials=0 in=0 out=0 state=running next=9 held=[] numbers={N:0,M:0,I:0,IF:0,COUNT:0} strings={B:,STRING:,S1:,A:,LINE:}\nstep 5: n=0 notes=0 split=- trials=3 in=0 out=0 state=running next=5 held=[] numbers={N:0,M:0,I:0,IF:0,COUNT:0} strings={B:,STRING:,S1:,A:,LINE:}\nstep 6: n=0 notes=0 split=- trials=0 in=0 out=0 state=running next=6 held=[] numbers={N:0,M:0,I:0,IF:0,COUNT:0} strings={B:,STRING:3030303030303030,S1:,A:,LINE:}\nstep 7: n=0 notes=0 split=- trials=0 in=0 out=0 state=running next=7 held=[] numbers={N:0,M:0,I:0,IF:0,COUNT:0} strings={B:,STRING:3030303030303030,S1:,A:,LINE:}\nstep 8: n=0 notes=0 split=- trials=0 in=0 out=0 state=running next=9 held=[] numbers={N:0,M:0,I:0,IF:0,COUNT:0} strings={B:,STRING:,S1:,A:,LINE:}\nstep 9: n=0 notes=0 split=- trials=3 in=0 out=0 state=running next=5 held=[] numbers={N:0,M:0,I:0,IF:0,COUNT:0} strings={B:,STRING:,S1:,A:,LINE:}\nstep 10: n=0 notes=0 split=- trials=0 in=0 out=0 state=running next=6 held=[] numbers={N:0,M:0,I:0,IF:0,COUNT:0} strings={B:,STRING:3030303030303030,S1:,A:,LINE:}\nstep 11: n=0 notes=0 split=- trials=0 in=0 out=0 state=running next=7 held=[] numbers={N:0,M:0,I:0,IF:0,COUNT:0} strings={B:,STRING:3030303030303030,S1:,A:,LINE:}\nstep 12: n=0 notes=0 split=- trials=0 in=0 out=0 state=running next=9 held=[] numbers={N:0,M:0,I:0,IF:0,COUNT:0} strings={B:,STRING:,S1:,A:,LINE:}\nstep 13: n=0 notes=0 split=- trials=3 in=0 out=0 state=running next=5 held=[] numbers={N:0,M:0,I:0,IF:0,COUNT:0} strings={B:,STRING:,S1:,A:,LINE:}\nstep 14: n=0 notes=0 split=- trials=0 in=0 out=0 state=running next=6 held=[] numbers={N:0,M:0,I:0,IF:0,COUNT:0} strings={B:,STRING:3030303030303030,S1:,A:,LINE:}\nstep 15: n=0 notes=0 split=- trials=0 in=0 out=0 state=running next=7 held=[] numbers={N:0,M:0,I:0,IF:0,COUNT:0} strings={B:,STRING:3030303030303030,S1:,A:,LINE:}\nstep 16: n=0 notes=0 split=- trials=0 in=0 out=0 state=running next=9 held=[] numbers={N:0,M:0,I:0,IF:0,COUNT:0} strings={B:,STRING:,S1:,A:,LINE:}\nstep 17: n=0 notes=0 split=- trials=3 in=0 out=0 state=running next=5 held=[] numbers={N:0,M:0,I:0,IF:0,COUNT:0} strings={B:,STRING:,S1:,A:,LINE:}\nstep 18: n=0 notes=0 split=- trials=0 in=0 out=0 state=running next=6 held=[] numbers={N:0,M:0,I:0,IF:0,COUNT:0} strings={B:,STRING:3030303030303030,S1:,A:,LINE:}\nstep 19: n=0 notes=0 split=- trials=0 in=0 out=0 state=running next=7 held=[] numbers={N:0,M:0,I:0,IF:0,COUNT:0} strings={B:,STRING:3030303030303030,S1:,A:,LINE:}\nstep 20: n=0 notes=0 split=- trials=0 in=0 out=0 state=running next=9 held=[] numbers={N:0,M:0,I:0,IF:0,COUNT:0} strings={B:,STRING:,S1:,A:,LINE:}\nstep 21: n=0 notes=0 split=- trials=3 in=0 out=0 state=running next=5 held=[] numbers={N:0,M:0,I:0,IF:0,COUNT:0} strings={B:,STRING:,S1:,A:,LINE:}\nstep 22: n=0 notes=0 split=- trials=0 in=0 out=0 state=running next=6 held=[] numbers={N:0,M:0,I:0,IF:0,COUNT:0} strings={B:,STRING:3030303030303030,S1:,A:,LINE:}\nstep 23: n=0 notes=0 split=- trials=0 in=0 out=0 state=running next=7 held=[] numbers={N:0,M:0,I:0,IF:0,COUNT:0} strings={B:,STRING:3030303030303030,S1:,A:,LINE:}\nstep 24: n=0 notes=0 split=- trials=0 in=0 out=0 state=running next=9 held=[] numbers={N:0,M:0,I:0,IF:0,COUNT:0} strings={B:,STRING:,S1:,A:,LINE:}\nstep 25: n=0 notes=0 split=- trials=3 in=0 out=0 state=running next=5 held=[] numbers={N:0,M:0,I:0,IF:0,COUNT:0} strings={B:,STRING:,S1:,A:,LINE:}\nstep 26: n=0 notes=0 split=- trials=0 in=0 out=0 state=running next=6 held=[] numbers={N:0,M:0,I:0,IF:0,COUNT:0} strings={B:,STRING:3030303030303030,S1:,A:,LINE:}\nstep 27: n=0 notes=0 split=- trials=0 in=0 out=0 state=running next=7 held=[] numbers={N:0,M:0,I:0,IF:0,COUNT:0} strings={B:,STRING:3030303030303030,S1:,A:,LINE:}\nstep 28: n=0 notes=0 split=- trials=0 in=0 out=0 state=running next=9 held=[] numbers={N:0,M:0,I:0,IF:0,COUNT:0} strings={B:,STRING:,S1:,A:,LINE:}\nstep 29: n=0 notes=0 split=- trials=3 in=0 out=0 state=running next=5 held=[] numbers={N:0,M:0,I:0,IF:0,COUNT:0} strings={B:,STRING:,S1:,A:,LINE:}\nstep 30: n=0 notes=0 split=- trials=0 in=0 out=0 state=running next=6 held=[] numbers={N:0,M:0,I:0,IF:0,COUNT:0} strings={B:,STRING:3030303030303030,S1:,A:,LINE:}\nstep 31: n=0 notes=0 split=- trials=0 in=0 out=0 state=running next=7 held=[] numbers={N:0,M:0,I:0,IF:0,COUNT:0} strings={B:,STRING:3030303030303030,S1:,A:,LINE:}\nstep 32: n=0 notes=0 split=- trials=0 in=0 out=0 state=running next=9 held=[] numbers={N:0,M:0,I:0,IF:0,COUNT:0} strings={B:,STRING:,S1:,A:,LINE:}\nstep 33: n=0 notes=0 split=- trials=3 in=0 out=0 state=running next=5 held=[] numbers={N:0,M:0,I:0,IF:0,COUNT:0} strings={B:,STRING:,S1:,A:,LINE:}\nstep 34: n=0 notes=0 split=- trials=0 in=0 out=0 state=running next=6 held=[] numbers={N:0,M:0,I:0,IF:0,COUNT:0} strings={B:,STRING:3030303030303030,S1:,A:,LINE:}\nstep 35: n=0 notes=0 split=- trials=0 in=0 out=0 state=running next=7 held=[] numbers={N:0,M:0,I:0,IF:0,COUNT:0} strings={B:,STRING:3030303030303030,S1:,A:,LINE:}\nstep 36: n=0 notes=0 split=- trials=0 in=0 out=0 state=running next=9 held=[] numbers={N:0,M:0,I:0,IF:0,COUNT:0} strings={B:,STRING:,S1:,A:,LINE:}\nstep 37: n=0 notes=0 split=- trials=3 in=0 out=0 state=running next=5 held=[] numbers={N:0,M:0,I:0,IF:0,COUNT:0} strings={B:,STRING:,S1:,A:,LINE:}\nstep 38: n=0 notes=0 split=- trials=0 in=0 out=0 state=running next=6 held=[] numbers={N:0,M:0,I:0,IF:0,COUNT:0} strings={B:,STRING:3030303030303030,S1:,A:,LINE:}\nstep 39: n=0 notes=0 split=- trials=0 in=0 out=0 state=running next=7 held=[] numbers={N:0,M:0,I:0,IF:0,COUNT:0} strings={B:,STRING:3030303030303030,S1:,A:,LINE:}\nstep 40: n=0 notes=0 split=- trials=0 in=0 out=0 state=running next=9 held=[] numbers={N:0,M:0,I:0,IF:0,COUNT:0} strings={B:,STRING:,S1:,A:,LINE:}\nstep 41: n=0 notes=0 split=- trials=3 in=0 out=0 state=running next=5 held=[] numbers={N:0,M:0,I:0,IF:0,COUNT:0} strings={B:,STRING:,S1:,A:,LINE:}\nstep 42: n=0 notes=0 split=- trials=0 in=0 out=0 state=running next=6 held=[] numbers={N:0,M:0,I:0,IF:0,COUNT:0} strings={B:,STRING:3030303030303030,S1:,A:,LINE:}\nstep 43: n=0 notes=0 split=- trials=0 in=0 out=0 state=running next=7 held=[] numbers={N:0,M:0,I:0,IF:0,COUNT:0} strings={B:,STRING:3030303030303030,S1:,A:,LINE:}\nstep 44: n=0 notes=0 split=- trials=0 in=0 out=0 state=running next=9 held=[] numbers={N:0,M:0,I:0,IF:0,COUNT:0} strings={B:,STRING:,S1:,A:,LINE:}\nstep 45: n=0 notes=0 split=- trials=3 in=0 out=0 state=running next=5 held=[] numbers={N:0,M:0,I:0,IF:0,COUNT:0} strings={B:,STRING:,S1:,A:,LINE:}\nstep 46: n=0 notes=0 split=- trials=0 in=0 out=0 state=running next=6 held=[] numbers={N:0,M:0,I:0,IF:0,COUNT:0} strings={B:,STRING:3030303030303030,S1:,A:,LINE:}\nstep 47: n=0 notes=0 split=- trials=0 in=0 out=0 state=running next=7 held=[] numbers={N:0,M:0,I:0,IF:0,COUNT:0} strings={B:,STRING:3030303030303030,S1:,A:,LINE:}\nstep 48: n=0 notes=0 split=- trials=0 in=0 out=0 state=running next=9 held=[] numbers={N:0,M:0,I:0,IF:0,COUNT:0} strings={B:,STRING:,S1:,A:,LINE:}\nstep 49: n=0 notes=0 split=- trials=3 in=0 out=0 state=running next=5 held=[] numbers={N:0,M:0,I:0,IF:0,COUNT:0} strings={B:,STRING:,S1:,A:,LINE:}\nstep 50: n=0 notes=0 split=- trials=0 in=0 out=0 state=running next=6 held=[] numbers={N:0,M:0,I:0,IF:0,COUNT:0} strings={B:,STRING:3030303030303030,S1:,A:,LINE:}\nstep 51: n=0 notes=0 split=- trials=0 in=0 out=0 state=running next=7 held=[] numbers={N:0,M:0,I:0,IF:0,COUNT:0} strings={B:,STRING:3030303030303030,S1:,A:,LINE:}\nstep 52: n=0 notes=0 split=- trials=0 in=0 out=0 state=running next=9 held=[] numbers={N:0,M:0,I:0,IF:0,COUNT:0} strings={B:,STRING:,S1:,A:,LINE:}\nstep 53: n=0 notes=0 split=- trials=3 in=0 out=0 state=running next=5 held=[] numbers={N:0,M:0,I:0,IF:0,COUNT:0} strings={B:,STRING:,S1:,A:,LINE:}\nstep 54: n=0 notes=0 split=- trials=0 in=0 out=0 state=running next=6 held=[] numbers={N:0,M:0,I:0,IF:0,COUNT:0} strings={B:,STRING:3030303030303030,S1:,A:,LINE:}\nstep 55: n=0 notes=0 split=- trials=0 in=0 out=0 state=running next=7 held=[] numbers={N:0,M:0,I:0,IF:0,COUNT:0} strings={B:,STRING:3030303030303030,S1:,A:,LINE:}\nstep 56: n=0 notes=0 split=- trials=0 in=0 out=0 state=running next=9 held=[] numbers={N:0,M:0,I:0,IF:0,COUNT:0} strings={B:,STRING:,S1:,A:,LINE:}\nstep 57: n=0 notes=0 split=- trials=3 in=0 out=0 state=running next=5 held=[] numbers={N:0,M:0,I:0,IF:0,COUNT:0} strings={B:,STRING:,S1:,A:,LINE:}\nstep 58: n=0 notes=0 split=- trials=0 in=0 out=0 state=running next=6 held=[] numbers={N:0,M:0,I:0,IF:0,COUNT:0} strings={B:,STRING:3030303030303030,S1:,A:,LINE:}\nstep 59: n=0 notes=0 split=- trials=0 in=0 out=0 state=running next=7 held=[] numbers={N:0,M:0,I:0,IF:0,COUNT:0} strings={B:,STRING:3030303030303030,S1:,A:,LINE:}\nstep 60: n=0 notes=0 split=- trials=0 in=0 out=0 state=running next=9 held=[] numbers={N:0,M:0,I:0,IF:0,COUNT:0} strings={B:,STRING:,S1:,A:,LINE:}\n" ≡ true
unfolding agrees
v032 = refl

v033 : agrees "         PROGRAM P\n         NUMBER N,M\n         C=A$M,A\n         BACKSCAN   A[(C),(B$1),A$M,(B)]\n         R E  AD C  / L3,L3  \n         IF(M>=N)/,L3\n         ROUTINE R1\n L1      PRINT(61) \"1 \",\" AA\",\"1=/2,\",A$N\n         IF(N<N)/L1\nL2       ENDROU TI  NE\n         EXE CU TE R3\n L3      GOTO L3                                                        SEQ26345\n         READ A/L3,L3\n         ROUTIN E R  3                                                  SEQ83635\n* COMMENT 9\nDONE     READ B/,DO  NE\n         ENDROUTINE\n         ROUTINE R2\n         GOT  O   X9                                                    SEQ53605\nX9      +N=M-(-3*6372253\n        1*  NUMBER(C))+1                                                SEQ50650\n          0\nLOOP     ENDROUTINE\n         C$N  =B\n         END\n" "" "step 1: n=0 notes=0 split=- trials=0 in=0 out=0 state=running next=4 held=[] numbers={N:0,M:0} strings={C:,A:,B:}\nstep 2: n=0 notes=0 split=- trials=1 in=0 out=0 state=running next=5 held=[] numbers={N:0,M:0} strings={C:,A:,B:}\nstep 3: n=0 notes=0 split=- trials=0 in=0 out=0 state=running next=12 held=[] numbers={N:0,M:0} strings={C:,A:,B:}\nstep 4: n=0 notes=0 split=- trials=0 in=0 out=0 state=running next=12 held=[] numbers={N:0,M:0} strings={C:,A:,B:}\nstep 5: n=0 notes=0 split=- trials=0 in=0 out=0 state=running next=12 held=[] numbers={N:0,M:0} strings={C:,A:,B:}\nstep 6: n=0 notes=0 split=- trials=0 in=0 out=0 state=running next=12 held=[] numbers={N:0,M:0} strings={C:,A:,B:}\nstep 7: n=0 notes=0 split=- trials=0 in=0 out=0 state=running next=12 held=[] numbers={N:0,M:0} strings={C:,A:,B:}\nstep 8: n=0 notes=0 split=- trials=0 in=0 out=0 state=running next=12 held=[] numbers={N:0,M:0} strings={C:,A:,B:}\nstep 9: n=0 notes=0 split=- trials=0 in=0 out=0 state=running next=12 held=[] numbers={N:0,M:0} strings={C:,A:,B:}\nstep 10: n=0 notes=0 split=- trials=0 in=0 out=0 state=running next=12 held=[] numbers={N:0,M:0} strings={C:,A:,B:}\nstep 11: n=0 notes=0 split=- trials=0 in=0 out=0 state=running next=12 held=[] numbers={N:0,M:0} strings={C:,A:,B:}\nstep 12: n=0 notes=0 split=- trials=0 in=0 out=0 state=running next=12 held=[] numbers={N:0,M:0} strings={C:,A:,B:}\nstep 13: n=0 notes=0 split=- trials=0 in=0 out=0 state=running next=12 held=[] numbers={N:0,M:0} strings={C:,A:,B:}\nstep 14: n=0 notes=0 split=- trials=0 in=0 out=0 state=running next=12 held=[] numbers={N:0,M:0} strings={C:,A:,B:}\nstep 15: n=0 notes=0 split=- trials=0 in=0 out=0 state=running next=12 held=[] numbers={N:0,M:0} strings={C:,A:,B:}\nstep 16: n=0 notes=0 split=- trials=0 in=0 out=0 state=running next=12 held=[] numbers={N:0,M:0} strings={C:,A:,B:}\nstep 17: n=0 notes=0 split=- trials=0 in=0 out=0 state=running next=12 held=[] numbers={N:0,M:0} strings={C:,A:,B:}\nstep 18: n=0 notes=0 split=- trials=0 in=0 out=0 state=running next=12 held=[] numbers={N:0,M:0} strings={C:,A:,B:}\nstep 19: n=0 notes=0 split=- trials=0 in=0 out=0 state=running next=12 held=[] numbers={N:0,M:0} strings={C:,A:,B:}\nstep 20: n=0 notes=0 split=- trials=0 in=0 out=0 state=running next=12 held=[] numbers={N:0,M:0} strings={C:,A:,B:}\nstep 21: n=0 notes=0 split=- trials=0 in=0 out=0 state=running next=12 held=[] numbers={N:0,M:0} strings={C:,A:,B:}\nstep 22: n=0 notes=0 split=- trials=0 in=0 out=0 state=running next=12 held=[] numbers={N:0,M:0} strings={C:,A:,B:}\nstep 23: n=0 notes=0 split=- trials=0 in=0 out=0 state=running next=12 held=[] numbers={N:0,M:0} strings={C:,A:,B:}\nstep 24: n=0 notes=0 split=- trials=0 in=0 out=0 state=running next=12 held=[] numbers={N:0,M:0} strings={C:,A:,B:}\nstep 25: n=0 notes=0 split=- trials=0 in=0 out=0 state=running next=12 held=[] numbers={N:0,M:0} strings={C:,A:,B:}\nstep 26: n=0 notes=0 split=- trials=0 in=0 out=0 state=running next=12 held=[] numbers={N:0,M:0} strings={C:,A:,B:}\nstep 27: n=0 notes=0 split=- trials=0 in=0 out=0 state=running next=12 held=[] numbers={N:0,M:0} strings={C:,A:,B:}\nstep 28: n=0 notes=0 split=- trials=0 in=0 out=0 state=running next=12 held=[] numbers={N:0,M:0} strings={C:,A:,B:}\nstep 29: n=0 notes=0 split=- trials=0 in=0 out=0 state=running next=12 held=[] numbers={N:0,M:0} strings={C:,A:,B:}\nstep 30: n=0 notes=0 split=- trials=0 in=0 out=0 state=running next=12 held=[] numbers={N:0,M:0} strings={C:,A:,B:}\nstep 31: n=0 notes=0 split=- trials=0 in=0 out=0 state=running next=12 held=[] numbers={N:0,M:0} strings={C:,A:,B:}\nstep 32: n=0 notes=0 split=- trials=0 in=0 out=0 state=running next=12 held=[] numbers={N:0,M:0} strings={C:,A:,B:}\nstep 33: n=0 notes=0 split=- trials=0 in=0 out=0 state=running next=12 held=[] numbers={N:0,M:0} strings={C:,A:,B:}\nstep 34: n=0 notes=0 split=- trials=0 in=0 out=0 state=running next=12 held=[] numbers={N:0,M:0} strings={C:,A:,B:}\nstep 35: n=0 notes=0 split=- trials=0 in=0 out=0 state=running next=12 held=[] numbers={N:0,M:0} strings={C:,A:,B:}\nstep 36: n=0 notes=0 split=- trials=0 in=0 out=0 state=running next=12 held=[] numbers={N:0,M:0} strings={C:,A:,B:}\nstep 37: n=0 notes=0 split=- trials=0 in=0 out=0 state=running next=12 held=[] numbers={N:0,M:0} strings={C:,A:,B:}\nstep 38: n=0 notes=0 split=- trials=0 in=0 out=0 state=running next=12 held=[] numbers={N:0,M:0} strings={C:,A:,B:}\nstep 39: n=0 notes=0 split=- trials=0 in=0 out=0 state=running next=12 held=[] numbers={N:0,M:0} strings={C:,A:,B:}\nstep 40: n=0 notes=0 split=- trials=0 in=0 out=0 state=running next=12 held=[] numbers={N:0,M:0} strings={C:,A:,B:}\nstep 41: n=0 notes=0 split=- trials=0 in=0 out=0 state=running next=12 held=[] numbers={N:0,M:0} strings={C:,A:,B:}\nstep 42: n=0 notes=0 split=- trials=0 in=0 out=0 state=running next=12 held=[] numbers={N:0,M:0} strings={C:,A:,B:}\nstep 43: n=0 notes=0 split=- trials=0 in=0 out=0 state=running next=12 held=[] numbers={N:0,M:0} strings={C:,A:,B:}\nstep 44: n=0 notes=0 split=- trials=0 in=0 out=0 state=running next=12 held=[] numbers={N:0,M:0} strings={C:,A:,B:}\nstep 45: n=0 notes=0 split=- trials=0 in=0 out=0 state=running next=12 held=[] numbers={N:0,M:0} strings={C:,A:,B:}\nstep 46: n=0 notes=0 split=- trials=0 in=0 out=0 state=running next=12 held=[] numbers={N:0,M:0} strings={C:,A:,B:}\nstep 47: n=0 notes=0 split=- trials=0 in=0 out=0 state=running next=12 held=[] numbers={N:0,M:0} strings={C:,A:,B:}\nstep 48: n=0 notes=0 split=- trials=0 in=0 out=0 state=running next=12 held=[] numbers={N:0,M:0} strings={C:,A:,B:}\nstep 49: n=0 notes=0 split=- trials=0 in=0 out=0 state=running next=12 held=[] numbers={N:0,M:0} strings={C:,A:,B:}\nstep 50: n=0 notes=0 split=- trials=0 in=0 out=0 state=running next=12 held=[] numbers={N:0,M:0} strings={C:,A:,B:}\nstep 51: n=0 notes=0 split=- trials=0 in=0 out=0 state=running next=12 held=[] numbers={N:0,M:0} strings={C:,A:,B:}\nstep 52: n=0 notes=0 split=- trials=0 in=0 out=0 state=running next=12 held=[] numbers={N:0,M:0} strings={C:,A:,B:}\nstep 53: n=0 notes=0 split=- trials=0 in=0 out=0 state=running next=12 held=[] numbers={N:0,M:0} strings={C:,A:,B:}\nstep 54: n=0 notes=0 split=- trials=0 in=0 out=0 state=running next=12 held=[] numbers={N:0,M:0} strings={C:,A:,B:}\nstep 55: n=0 notes=0 split=- trials=0 in=0 out=0 state=running next=12 held=[] numbers={N:0,M:0} strings={C:,A:,B:}\nstep 56: n=0 notes=0 split=- trials=0 in=0 out=0 state=running next=12 held=[] numbers={N:0,M:0} strings={C:,A:,B:}\nstep 57: n=0 notes=0 split=- trials=0 in=0 out=0 state=running next=12 held=[] numbers={N:0,M:0} strings={C:,A:,B:}\nstep 58: n=0 notes=0 split=- trials=0 in=0 out=0 state=running next=12 held=[] numbers={N:0,M:0} strings={C:,A:,B:}\nstep 59: n=0 notes=0 split=- trials=0 in=0 out=0 state=running next=12 held=[] numbers={N:0,M:0} strings={C:,A:,B:}\nstep 60: n=0 notes=0 split=- trials=0 in=0 out=0 state=running next=12 held=[] numbers={N:0,M:0} strings={C:,A:,B:}\n" ≡ true
unfolding agrees
v033 = refl

v034 : agrees "         PROGRAM TEST1\n         NUMBER N,M,I,K9\n         S1=STRING(-0,N)\n         M=K9                                                           SEQ12324\n         S1=\"1B1\",B                                                     SEQ77969\n         R  O  UTIN  E R 3\nL3       C=                                                             SEQ44609\nL1       E NDROU T  INE\n* COMMENT 2\n         PRINT \"A\",B\n        CM=+(-NUMBER(A))-(((M*LENGTH(C)/M))/(NUMBER(B))*(I)+K9/LENGTH(B)\n         -(I/I)-LENGTH(S1))+2\n         ROUTINE R1\nX9       A=B$N,\"2A  B\",\",BB\",A\n L2      I=+K9*M+LENGTH(A)*(LENGTH(S1)-(-02606-4-I-(N)))\n         ENDROUTINE\n         ROUTINE R2\n* COMMENT 0\nDONE     K9= 9\n* COMMENT 7\nLOOP     ENDROUTINE\n         M=172+NUMBER(S1 )/I\n         PRINT(61) C,\"2 \"\n         A=B\n         END\n" "\n\nBA 1+-\n1+AA +0-+-B2\nA-+A+0,A,2B0\n,+0+-A BB A0\n-,A0B012A-A,AA-1-+BAA1B A ,2110-2A02 B-2\n\n" "step 1: n=0 notes=0 split=- trials=0 in=0 out=0 state=running next=4 held=[] numbers={N:0,M:0,I:0,K9:0} strings={S1:30,B:,C:,A:}\nstep 2: n=0 notes=0 split=- trials=0 in=0 out=0 state=running next=5 held=[] numbers={N:0,M:0,I:0,K9:0} strings={S1:30,B:,C:,A:}\nstep 3: n=0 notes=0 split=- trials=0 in=0 out=0 state=running next=6 held=[] numbers={N:0,M:0,I:0,K9:0} strings={S1:314231,B:,C:,A:}\nstep 4: n=0 notes=0 split=- trials=0 in=0 out=0 state=running next=10 held=[] numbers={N:0,M:0,I:0,K9:0} strings={S1:314231,B:,C:,A:}\nstep 5: n=0 notes=0 split=- trials=0 in=0 out=2 state=running next=11 held=[] numbers={N:0,M:0,I:0,K9:0} strings={S1:314231,B:,C:,A:}\nstep 6: n=18 notes=0 split=- trials=0 in=0 out=2 state=stopped next=11 held=[] numbers={N:0,M:0,I:0,K9:0} strings={S1:314231,B:,C:,A:}\n" ≡ true
unfolding agrees
v034 = refl

v035 : agrees "         PROGRAM LOTS\n         NUMBER N,M,I\n         READ S1/X9,DONE\nL1       I=N\nLOOP     G OTO L 3\n         C=STRING(-6,N)\n   \n         N=I-(+M*(2)) \nL3       BACKSCA  N  B[\"B,A A BA  A1\",(A$3),TEXTL ONG]/,L3\n         SCAN S1$8[]=/L3\n         PRINT A$003,C,STRING(0,N),\"+,B\"\n         A =B\n X9      EXIT\nL2       READ C$N/L3\n         READ(60) S1/L1\n         N=-2+I\nDONE     END\n" "\nB--BAB\nB -\nAA-0A \n\n\nA+,,,A\n\n" "step 1: n=0 notes=0 split=- trials=0 in=1 out=0 state=running next=13 held=[] numbers={N:0,M:0,I:0} strings={S1:,C:,B:,A:,TEXTLONG:}\nstep 2: n=0 notes=0 split=- trials=0 in=1 out=0 state=finished next=13 held=[] numbers={N:0,M:0,I:0} strings={S1:,C:,B:,A:,TEXTLONG:}\n" ≡ true
unfolding agrees
v035 = refl

v036 : agrees "         PROGRAM TEST1\n         NUMBER N\n         GO  TO L3\n         SCAN F$N[(G), (B$N),  STRING(0  ,N)]=\"/\",  G/,L3\n         SCAN F[]=/DONE\n L1      C=A,STRING (0,N) ,STRIN G(  N)\n         PRINT C$6,\"2,\",\" \",\" 1  2,AA 22B\"\n         A=C$0,\"\"\",\"AA\"\n DONE   XBACKSCAN F[STRING(-5,N),( S1),\"\"\",(B$0),(B $3),(S1$0002),TEX  T\n           LO NG]/  L1,L3\n         N=(N)*N-NUMBER(B)*N\nL3       N=+(N)-LENGTH(F)\nX9       ROUTI  NE   R1\n L2      TEXTLONG=F  ,LINE$3\n LOOP    ENDROUTINE\n         END\n" "A,A+A1+A+1-A  ,2B1+A202-0- 2+A-AA+B1BA 2\n B1\n++B,A,, BAA2\nA2A0AA  +,A0\n,B+B0+++-BA1\n0-, ,- 1A101\n\n++1" "step 1: n=0 notes=0 split=- trials=0 in=0 out=0 state=running next=12 held=[] numbers={N:0} strings={F:,G:,B:,C:,A:,S1:,TEXTLONG:,LINE:}\nstep 2: n=0 notes=0 split=- trials=0 in=0 out=0 state=running next=13 held=[] numbers={N:0} strings={F:,G:,B:,C:,A:,S1:,TEXTLONG:,LINE:}\nstep 3: n=0 notes=0 split=- trials=0 in=0 out=0 state=running next=16 held=[] numbers={N:0} strings={F:,G:,B:,C:,A:,S1:,TEXTLONG:,LINE:}\nstep 4: n=0 notes=0 split=- trials=0 in=0 out=0 state=finished next=16 held=[] numbers={N:0} strings={F:,G:,B:,C:,A:,S1:,TEXTLONG:,LINE:}\n" ≡ true
unfolding agrees
v036 = refl

v037 : agrees "         PROGRAM LOTS\nSTART    N UMBER N,M,I\nL1       READ B/,L  OOP\nDONE     BACKSCAN A$6[]=STRING(3,M)/DONE\nX9       GOTO DONE  \nLOOP    CB$N  =\n IGNORED*TEXTL \n        CONG,ST\n        1R I NG\n         (N),B\n L3      R  EAD B/  L1\n L2      END\n" "1 BAB1B A,A 0+- +B+B01  -+11+-,1-BBA++A+\n" "step 1: n=0 notes=0 split=- trials=0 in=41 out=0 state=running next=4 held=[] numbers={N:0,M:0,I:0} strings={B:3120424142314220412c4120302b2d202b422b42303120202d2b31312b2d2c312d4242412b2b412b,A:,TEXTLONG:}\nstep 2: n=0 notes=0 split=0; trials=0 in=41 out=0 state=running next=4 held=[] numbers={N:0,M:0,I:0} strings={B:3120424142314220412c4120302b2d202b422b42303120202d2b31312b2d2c312d4242412b2b412b,A:303030,TEXTLONG:}\nstep 3: n=0 notes=0 split=0; trials=0 in=41 out=0 state=running next=4 held=[] numbers={N:0,M:0,I:0} strings={B:3120424142314220412c4120302b2d202b422b42303120202d2b31312b2d2c312d4242412b2b412b,A:303030303030,TEXTLONG:}\nstep 4: n=0 notes=0 split=0; trials=0 in=41 out=0 state=running next=4 held=[] numbers={N:0,M:0,I:0} strings={B:3120424142314220412c4120302b2d202b422b42303120202d2b31312b2d2c312d4242412b2b412b,A:303030303030303030,TEXTLONG:}\nstep 5: n=0 notes=0 split=0; trials=0 in=41 out=0 state=running next=4 held=[] numbers={N:0,M:0,I:0} strings={B:3120424142314220412c4120302b2d202b422b42303120202d2b31312b2d2c312d4242412b2b412b,A:303030303030303030303030,TEXTLONG:}\nstep 6: n=0 notes=0 split=0; trials=0 in=41 out=0 state=running next=4 held=[] numbers={N:0,M:0,I:0} strings={B:3120424142314220412c4120302b2d202b422b42303120202d2b31312b2d2c312d4242412b2b412b,A:303030303030303030303030303030,TEXTLONG:}\nstep 7: n=0 notes=0 split=0; trials=0 in=41 out=0 state=running next=4 held=[] numbers={N:0,M:0,I:0} strings={B:3120424142314220412c4120302b2d202b422b42303120202d2b31312b2d2c312d4242412b2b412b,A:303030303030303030303030303030303030,TEXTLONG:}\nstep 8: n=0 notes=0 split=0; trials=0 in=41 out=0 state=running next=4 held=[] numbers={N:0,M:0,I:0} strings={B:3120424142314220412c4120302b2d202b422b42303120202d2b31312b2d2c312d4242412b2b412b,A:303030303030303030303030303030303030303030,TEXTLONG:}\nstep 9: n=0 notes=0 split=0; trials=0 in=41 out=0 state=running next=4 held=[] numbers={N:0,M:0,I:0} strings={B:3120424142314220412c4120302b2d202b422b42303120202d2b31312b2d2c312d4242412b2b412b,A:303030303030303030303030303030303030303030303030,TEXTLONG:}\nstep 10: n=0 notes=0 split=0; trials=0 in=41 out=0 state=running next=4 held=[] numbers={N:0,M:0,I:0} strings={B:3120424142314220412c4120302b2d202b422b42303120202d2b31312b2d2c312d4242412b2b412b,A:303030303030303030303030303030303030303030303030303030,TEXTLONG:}\nstep 11: n=0 notes=0 split=0; trials=0 in=41 out=0 state=running next=4 held=[] numbers={N:0,M:0,I:0} strings={B:3120424142314220412c4120302b2d202b422b42303120202d2b31312b2d2c312d4242412b2b412b,A:303030303030303030303030303030303030303030303030303030303030,TEXTLONG:}\nstep 12: n=0 notes=0 split=0; trials=0 in=41 out=0 state=running next=4 held=[] numbers={N:0,M:0,I:0} strings={B:3120424142314220412c4120302b2d202b422b42303120202d2b31312b2d2c312d4242412b2b412b,A:303030303030303030303030303030303030303030303030303030303030303030,TEXTLONG:}\nstep 13: n=0 notes=0 split=0; trials=0 in=41 out=0 state=running next=4 held=[] numbers={N:0,M:0,I:0} strings={B:3120424142314220412c4120302b2d202b422b42303120202d2b31312b2d2c312d4242412b2b412b,A:303030303030303030303030303030303030303030303030303030303030303030303030,TEXTLONG:}\nstep 14: n=0 notes=0 split=0; trials=0 in=41 out=0 state=running next=4 held=[] numbers={N:0,M:0,I:0} strings={B:3120424142314220412c4120302b2d202b422b42303120202d2b31312b2d2c312d4242412b2b412b,A:303030303030303030303030303030303030303030303030303030303030303030303030303030,TEXTLONG:}\nstep 15: n=0 notes=0 split=0; trials=0 in=41 out=0 state=running next=4 held=[] numbers={N:0,M:0,I:0} strings={B:3120424142314220412c4120302b2d202b422b42303120202d2b31312b2d2c312d4242412b2b412b,A:303030303030303030303030303030303030303030303030303030303030303030303030303030303030,TEXTLONG:}\nstep 16: n=0 notes=0 split=0; trials=0 in=41 out=0 state=running next=4 held=[] numbers={N:0,M:0,I:0} strings={B:3120424142314220412c4120302b2d202b422b42303120202d2b31312b2d2c312d4242412b2b412b,A:303030303030303030303030303030303030303030303030303030303030303030303030303030303030303030,TEXTLONG:}\nstep 17: n=0 notes=0 split=0; trials=0 in=41 out=0 state=running next=4 held=[] numbers={N:0,M:0,I:0} strings={B:3120424142314220412c4120302b2d202b422b42303120202d2b31312b2d2c312d4242412b2b412b,A:303030303030303030303030303030303030303030303030303030303030303030303030303030303030303030303030,TEXTLONG:}\nstep 18: n=0 notes=0 split=0; trials=0 in=41 out=0 state=running next=4 held=[] numbers={N:0,M:0,I:0} strings={B:3120424142314220412c4120302b2d202b422b42303120202d2b31312b2d2c312d4242412b2b412b,A:303030303030303030303030303030303030303030303030303030303030303030303030303030303030303030303030303030,TEXTLONG:}\nstep 19: n=0 notes=0 split=0; trials=0 in=41 out=0 state=running next=4 held=[] numbers={N:0,M:0,I:0} strings={B:3120424142314220412c4120302b2d202b422b42303120202d2b31312b2d2c312d4242412b2b412b,A:303030303030303030303030303030303030303030303030303030303030303030303030303030303030303030303030303030303030,TEXTLONG:}\nstep 20: n=0 notes=0 split=0; trials=0 in=41 out=0 state=running next=4 held=[] numbers={N:0,M:0,I:0} strings={B:3120424142314220412c4120302b2d202b422b42303120202d2b31312b2d2c312d4242412b2b412b,A:303030303030303030303030303030303030303030303030303030303030303030303030303030303030303030303030303030303030303030,TEXTLONG:}\nstep 21: n=0 notes=0 split=0; trials=0 in=41 out=0 state=running next=4 held=[] numbers={N:0,M:0,I:0} strings={B:3120424142314220412c4120302b2d202b422b42303120202d2b31312b2d2c312d4242412b2b412b,A:303030303030303030303030303030303030303030303030303030303030303030303030303030303030303030303030303030303030303030303030,TEXTLONG:}\nstep 22: n=0 notes=0 split=0; trials=0 in=41 out=0 state=running next=4 held=[] numbers={N:0,M:0,I:0} strings={B:3120424142314220412c4120302b2d202b422b42303120202d2b31312b2d2c312d4242412b2b412b,A:303030303030303030303030303030303030303030303030303030303030303030303030303030303030303030303030303030303030303030303030303030,TEXTLONG:}\nstep 23: n=0 notes=0 split=0; trials=0 in=41 out=0 state=running next=4 held=[] numbers={N:0,M:0,I:0} strings={B:3120424142314220412c4120302b2d202b422b42303120202d2b31312b2d2c312d4242412b2b412b,A:303030303030303030303030303030303030303030303030303030303030303030303030303030303030303030303030303030303030303030303030303030303030,TEXTLONG:}\nstep 24: n=0 notes=0 split=0; trials=0 in=41 out=0 state=running next=4 held=[] numbers={N:0,M:0,I:0} strings={B:3120424142314220412c4120302b2d202b422b42303120202d2b31312b2d2c312d4242412b2b412b,A:303030303030303030303030303030303030303030303030303030303030303030303030303030303030303030303030303030303030303030303030303030303030303030,TEXTLONG:}\nstep 25: n=0 notes=0 split=0; trials=0 in=41 out=0 state=running next=4 held=[] numbers={N:0,M:0,I:0} strings={B:3120424142314220412c4120302b2d202b422b42303120202d2b31312b2d2c312d4242412b2b412b,A:303030303030303030303030303030303030303030303030303030303030303030303030303030303030303030303030303030303030303030303030303030303030303030303030,TEXTLONG:}\nstep 26: n=0 notes=0 split=0; trials=0 in=41 out=0 state=running next=4 held=[] numbers={N:0,M:0,I:0} strings={B:3120424142314220412c4120302b2d202b422b42303120202d2b31312b2d2c312d4242412b2b412b,A:303030303030303030303030303030303030303030303030303030303030303030303030303030303030303030303030303030303030303030303030303030303030303030303030303030,TEXTLONG:}\nstep 27: n=0 notes=0 split=0; trials=0 in=41 out=0 state=running next=4 held=[] numbers={N:0,M:0,I:0} strings={B:3120424142314220412c4120302b2d202b422b42303120202d2b31312b2d2c312d4242412b2b412b,A:303030303030303030303030303030303030303030303030303030303030303030303030303030303030303030303030303030303030303030303030303030303030303030303030303030303030,TEXTLONG:}\nstep 28: n=0 notes=0 split=0; trials=0 in=41 out=0 state=running next=4 held=[] numbers={N:0,M:0,I:0} strings={B:3120424142314220412c4120302b2d202b422b42303120202d2b31312b2d2c312d4242412b2b412b,A:303030303030303030303030303030303030303030303030303030303030303030303030303030303030303030303030303030303030303030303030303030303030303030303030303030303030303030,TEXTLONG:}\nstep 29: n=0 notes=0 split=0; trials=0 in=41 out=0 state=running next=4 held=[] numbers={N:0,M:0,I:0} strings={B:3120424142314220412c4120302b2d202b422b42303120202d2b31312b2d2c312d4242412b2b412b,A:303030303030303030303030303030303030303030303030303030303030303030303030303030303030303030303030303030303030303030303030303030303030303030303030303030303030303030303030,TEXTLONG:}\nstep 30: n=0 notes=0 split=0; trials=0 in=41 out=0 state=running next=4 held=[] numbers={N:0,M:0,I:0} strings={B:3120424142314220412c4120302b2d202b422b42303120202d2b31312b2d2c312d4242412b2b412b,A:303030303030303030303030303030303030303030303030303030303030303030303030303030303030303030303030303030303030303030303030303030303030303030303030303030303030303030303030303030,TEXTLONG:}\nstep 31: n=0 notes=0 split=0; trials=0 in=41 out=0 state=running next=4 held=[] numbers={N:0,M:0,I:0} strings={B:3120424142314220412c4120302b2d202b422b42303120202d2b31312b2d2c312d4242412b2b412b,A:303030303030303030303030303030303030303030303030303030303030303030303030303030303030303030303030303030303030303030303030303030303030303030303030303030303030303030303030303030303030,TEXTLONG:}\nstep 32: n=0 notes=0 split=0; trials=0 in=41 out=0 state=running next=4 held=[] numbers={N:0,M:0,I:0} strings={B:3120424142314220412c4120302b2d202b422b42303120202d2b31312b2d2c312d4242412b2b412b,A:303030303030303030303030303030303030303030303030303030303030303030303030303030303030303030303030303030303030303030303030303030303030303030303030303030303030303030303030303030303030303030,TEXTLONG:}\nstep 33: n=0 notes=0 split=0; trials=0 in=41 out=0 state=running next=4 held=[] numbers={N:0,M:0,I:0} strings={B:3120424142314220412c4120302b2d202b422b42303120202d2b31312b2d2c312d4242412b2b412b,A:303030303030303030303030303030303030303030303030303030303030303030303030303030303030303030303030303030303030303030303030303030303030303030303030303030303030303030303030303030303030303030303030,TEXTLONG:}\nstep 34: n=0 notes=0 split=0; trials=0 in=41 out=0 state=running next=4 held=[] numbers={N:0,M:0,I:0} strings={B:3120424142314220412c4120302b2d202b422b42303120202d2b31312b2d2c312d4242412b2b412b,A:303030303030303030303030303030303030303030303030303030303030303030303030303030303030303030303030303030303030303030303030303030303030303030303030303030303030303030303030303030303030303030303030303030,TEXTLONG:}\nstep 35: n=0 notes=0 split=0; trials=0 in=41 out=0 state=running next=4 held=[] numbers={N:0,M:0,I:0} strings={B:3120424142314220412c4120302b2d202b422b42303120202d2b31312b2d2c312d4242412b2b412b,A:303030303030303030303030303030303030303030303030303030303030303030303030303030303030303030303030303030303030303030303030303030303030303030303030303030303030303030303030303030303030303030303030303030303030,TEXTLONG:}\nstep 36: n=0 notes=0 split=0; trials=0 in=41 out=0 state=running next=4 held=[] numbers={N:0,M:0,I:0} strings={B:3120424142314220412c4120302b2d202b422b42303120202d2b31312b2d2c312d4242412b2b412b,A:303030303030303030303030303030303030303030303030303030303030303030303030303030303030303030303030303030303030303030303030303030303030303030303030303030303030303030303030303030303030303030303030303030303030303030,TEXTLONG:}\nstep 37: n=0 notes=0 split=0; trials=0 in=41 out=0 state=running next=4 held=[] numbers={N:0,M:0,I:0} strings={B:3120424142314220412c4120302b2d202b422b42303120202d2b31312b2d2c312d4242412b2b412b,A:303030303030303030303030303030303030303030303030303030303030303030303030303030303030303030303030303030303030303030303030303030303030303030303030303030303030303030303030303030303030303030303030303030303030303030303030,TEXTLONG:}\nstep 38: n=0 notes=0 split=0; trials=0 in=41 out=0 state=running next=4 held=[] numbers={N:0,M:0,I:0} strings={B:3120424142314220412c4120302b2d202b422b42303120202d2b31312b2d2c312d4242412b2b412b,A:303030303030303030303030303030303030303030303030303030303030303030303030303030303030303030303030303030303030303030303030303030303030303030303030303030303030303030303030303030303030303030303030303030303030303030303030303030,TEXTLONG:}\nstep 39: n=0 notes=0 split=0; trials=0 in=41 out=0 state=running next=4 held=[] numbers={N:0,M:0,I:0} strings={B:3120424142314220412c4120302b2d202b422b42303120202d2b31312b2d2c312d4242412b2b412b,A:303030303030303030303030303030303030303030303030303030303030303030303030303030303030303030303030303030303030303030303030303030303030303030303030303030303030303030303030303030303030303030303030303030303030303030303030303030303030,TEXTLONG:}\nstep 40: n=0 notes=0 split=0; trials=0 in=41 out=0 state=running next=4 held=[] numbers={N:0,M:0,I:0} strings={B:3120424142314220412c4120302b2d202b422b42303120202d2b31312b2d2c312d4242412b2b412b,A:303030303030303030303030303030303030303030303030303030303030303030303030303030303030303030303030303030303030303030303030303030303030303030303030303030303030303030303030303030303030303030303030303030303030303030303030303030303030303030,TEXTLONG:}\nstep 41: n=0 notes=0 split=0; trials=0 in=41 out=0 state=running next=4 held=[] numbers={N:0,M:0,I:0} strings={B:3120424142314220412c4120302b2d202b422b42303120202d2b31312b2d2c312d4242412b2b412b,A:303030303030303030303030303030303030303030303030303030303030303030303030303030303030303030303030303030303030303030303030303030303030303030303030303030303030303030303030303030303030303030303030303030303030303030303030303030303030303030303030,TEXTLONG:}\nstep 42: n=0 notes=0 split=0; trials=0 in=41 out=0 state=running next=4 held=[] numbers={N:0,M:0,I:0} strings={B:3120424142314220412c4120302b2d202b422b42303120202d2b31312b2d2c312d4242412b2b412b,A:303030303030303030303030303030303030303030303030303030303030303030303030303030303030303030303030303030303030303030303030303030303030303030303030303030303030303030303030303030303030303030303030303030303030303030303030303030303030303030303030303030,TEXTLONG:}\nstep 43: n=0 notes=0 split=0; trials=0 in=41 out=0 state=running next=4 held=[] numbers={N:0,M:0,I:0} strings={B:3120424142314220412c4120302b2d202b422b42303120202d2b31312b2d2c312d4242412b2b412b,A:303030303030303030303030303030303030303030303030303030303030303030303030303030303030303030303030303030303030303030303030303030303030303030303030303030303030303030303030303030303030303030303030303030303030303030303030303030303030303030303030303030303030,TEXTLONG:}\nstep 44: n=0 notes=0 split=0; trials=0 in=41 out=0 state=running next=4 held=[] numbers={N:0,M:0,I:0} strings={B:3120424142314220412c4120302b2d202b422b42303120202d2b31312b2d2c312d4242412b2b412b,A:303030303030303030303030303030303030303030303030303030303030303030303030303030303030303030303030303030303030303030303030303030303030303030303030303030303030303030303030303030303030303030303030303030303030303030303030303030303030303030303030303030303030303030,TEXTLONG:}\nstep 45: n=0 notes=0 split=0; trials=0 in=41 out=0 state=running next=4 held=[] numbers={N:0,M:0,I:0} strings={B:3120424142314220412c4120302b2d202b422b42303120202d2b31312b2d2c312d4242412b2b412b,A:303030303030303030303030303030303030303030303030303030303030303030303030303030303030303030303030303030303030303030303030303030303030303030303030303030303030303030303030303030303030303030303030303030303030303030303030303030303030303030303030303030303030303030303030,TEXTLONG:}\nstep 46: n=0 notes=0 split=0; trials=0 in=41 out=0 state=running next=4 held=[] numbers={N:0,M:0,I:0} strings={B:3120424142314220412c4120302b2d202b422b42303120202d2b31312b2d2c312d4242412b2b412b,A:303030303030303030303030303030303030303030303030303030303030303030303030303030303030303030303030303030303030303030303030303030303030303030303030303030303030303030303030303030303030303030303030303030303030303030303030303030303030303030303030303030303030303030303030303030,TEXTLONG:}\nstep 47: n=0 notes=0 split=0; trials=0 in=41 out=0 state=running next=4 held=[] numbers={N:0,M:0,I:0} strings={B:3120424142314220412c4120302b2d202b422b42303120202d2b31312b2d2c312d4242412b2b412b,A:303030303030303030303030303030303030303030303030303030303030303030303030303030303030303030303030303030303030303030303030303030303030303030303030303030303030303030303030303030303030303030303030303030303030303030303030303030303030303030303030303030303030303030303030303030303030,TEXTLONG:}\nstep 48: n=0 notes=0 split=0; trials=0 in=41 out=0 state=running next=4 held=[] numbers={N:0,M:0,I:0} strings={B:3120424142314220412c4120302b2d202b422b42303120202d2b31312b2d2c312d4242412b2b412b,A:303030303030303030303030303030303030303030303030303030303030303030303030303030303030303030303030303030303030303030303030303030303030303030303030303030303030303030303030303030303030303030303030303030303030303030303030303030303030303030303030303030303030303030303030303030303030303030,TEXTLONG:}\nstep 49: n=0 notes=0 split=0; trials=0 in=41 out=0 state=running next=4 held=[] numbers={N:0,M:0,I:0} strings={B:3120424142314220412c4120302b2d202b422b42303120202d2b31312b2d2c312d4242412b2b412b,A:303030303030303030303030303030303030303030303030303030303030303030303030303030303030303030303030303030303030303030303030303030303030303030303030303030303030303030303030303030303030303030303030303030303030303030303030303030303030303030303030303030303030303030303030303030303030303030303030,TEXTLONG:}\nstep 50: n=0 notes=0 split=0; trials=0 in=41 out=0 state=running next=4 held=[] numbers={N:0,M:0,I:0} strings={B:3120424142314220412c4120302b2d202b422b42303120202d2b31312b2d2c312d4242412b2b412b,A:303030303030303030303030303030303030303030303030303030303030303030303030303030303030303030303030303030303030303030303030303030303030303030303030303030303030303030303030303030303030303030303030303030303030303030303030303030303030303030303030303030303030303030303030303030303030303030303030303030,TEXTLONG:}\nstep 51: n=0 notes=0 split=0; trials=0 in=41 out=0 state=running next=4 held=[] numbers={N:0,M:0,I:0} strings={B:3120424142314220412c4120302b2d202b422b42303120202d2b31312b2d2c312d4242412b2b412b,A:303030303030303030303030303030303030303030303030303030303030303030303030303030303030303030303030303030303030303030303030303030303030303030303030303030303030303030303030303030303030303030303030303030303030303030303030303030303030303030303030303030303030303030303030303030303030303030303030303030303030,TEXTLONG:}\nstep 52: n=0 notes=0 split=0; trials=0 in=41 out=0 state=running next=4 held=[] numbers={N:0,M:0,I:0} strings={B:3120424142314220412c4120302b2d202b422b42303120202d2b31312b2d2c312d4242412b2b412b,A:303030303030303030303030303030303030303030303030303030303030303030303030303030303030303030303030303030303030303030303030303030303030303030303030303030303030303030303030303030303030303030303030303030303030303030303030303030303030303030303030303030303030303030303030303030303030303030303030303030303030303030,TEXTLONG:}\nstep 53: n=0 notes=0 split=0; trials=0 in=41 out=0 state=running next=4 held=[] numbers={N:0,M:0,I:0} strings={B:3120424142314220412c4120302b2d202b422b42303120202d2b31312b2d2c312d4242412b2b412b,A:303030303030303030303030303030303030303030303030303030303030303030303030303030303030303030303030303030303030303030303030303030303030303030303030303030303030303030303030303030303030303030303030303030303030303030303030303030303030303030303030303030303030303030303030303030303030303030303030303030303030303030303030,TEXTLONG:}\nstep 54: n=0 notes=0 split=0; trials=0 in=41 out=0 state=running next=4 held=[] numbers={N:0,M:0,I:0} strings={B:3120424142314220412c4120302b2d202b422b42303120202d2b31312b2d2c312d4242412b2b412b,A:303030303030303030303030303030303030303030303030303030303030303030303030303030303030303030303030303030303030303030303030303030303030303030303030303030303030303030303030303030303030303030303030303030303030303030303030303030303030303030303030303030303030303030303030303030303030303030303030303030303030303030303030303030,TEXTLONG:}\nstep 55: n=0 notes=0 split=0; trials=0 in=41 out=0 state=running next=4 held=[] numbers={N:0,M:0,I:0} strings={B:3120424142314220412c4120302b2d202b422b42303120202d2b31312b2d2c312d4242412b2b412b,A:303030303030303030303030303030303030303030303030303030303030303030303030303030303030303030303030303030303030303030303030303030303030303030303030303030303030303030303030303030303030303030303030303030303030303030303030303030303030303030303030303030303030303030303030303030303030303030303030303030303030303030303030303030303030,TEXTLONG:}\nstep 56: n=0 notes=0 split=0; trials=0 in=41 out=0 state=running next=4 held=[] numbers={N:0,M:0,I:0} strings={B:3120424142314220412c4120302b2d202b422b42303120202d2b31312b2d2c312d4242412b2b412b,A:303030303030303030303030303030303030303030303030303030303030303030303030303030303030303030303030303030303030303030303030303030303030303030303030303030303030303030303030303030303030303030303030303030303030303030303030303030303030303030303030303030303030303030303030303030303030303030303030303030303030303030303030303030303030303030,TEXTLONG:}\nstep 57: n=0 notes=0 split=0; trials=0 in=41 out=0 state=running next=4 held=[] numbers={N:0,M:0,I:0} strings={B:3120424142314220412c4120302b2d202b422b42303120202d2b31312b2d2c312d4242412b2b412b,A:303030303030303030303030303030303030303030303030303030303030303030303030303030303030303030303030303030303030303030303030303030303030303030303030303030303030303030303030303030303030303030303030303030303030303030303030303030303030303030303030303030303030303030303030303030303030303030303030303030303030303030303030303030303030303030303030,TEXTLONG:}\nstep 58: n=0 notes=0 split=0; trials=0 in=41 out=0 state=running next=4 held=[] numbers={N:0,M:0,I:0} strings={B:3120424142314220412c4120302b2d202b422b42303120202d2b31312b2d2c312d4242412b2b412b,A:303030303030303030303030303030303030303030303030303030303030303030303030303030303030303030303030303030303030303030303030303030303030303030303030303030303030303030303030303030303030303030303030303030303030303030303030303030303030303030303030303030303030303030303030303030303030303030303030303030303030303030303030303030303030303030303030303030,TEXTLONG:}\nstep 59: n=0 notes=0 split=0; trials=0 in=41 out=0 state=running next=4 held=[] numbers={N:0,M:0,I:0} strings={B:3120424142314220412c4120302b2d202b422b42303120202d2b31312b2d2c312d4242412b2b412b,A:303030303030303030303030303030303030303030303030303030303030303030303030303030303030303030303030303030303030303030303030303030303030303030303030303030303030303030303030303030303030303030303030303030303030303030303030303030303030303030303030303030303030303030303030303030303030303030303030303030303030303030303030303030303030303030303030303030303030,TEXTLONG:}\nstep 60: n=0 notes=0 split=0; trials=0 in=41 out=0 state=running next=4 held=[] numbers={N:0,M:0,I:0} strings={B:3120424142314220412c4120302b2d202b422b42303120202d2b31312b2d2c312d4242412b2b412b,A:303030303030303030303030303030303030303030303030303030303030303030303030303030303030303030303030303030303030303030303030303030303030303030303030303030303030303030303030303030303030303030303030303030303030303030303030303030303030303030303030303030303030303030303030303030303030303030303030303030303030303030303030303030303030303030303030303030303030303030,TEXTLONG:}\n" ≡ true
unfolding agrees
v037 = refl

v038 : agrees "         PROGR  AM LO TS\nSTART    NUMBER N,M,I\n         A=B$M\n         I =N\n         ROUTINE R2\nLOOP     B  =\"*,\",STRIN G  (-0005,N)  , \"2B\"\n L1      I= N\n         ENDROUTINE\n         RO  UTINE R  1\n X9      READ A$3\n         GOTO X9\n         SCAN B$I[B,A$0,A]/X9,X9\n* COMMENT 3\n         GOTO X9\n         ENDROUTINE\n         PRINT(61) B$0004\n         WRITE(61)  \n         SCAN B$2[(A),\"A B1,\",(A),\"2\",B,(A),STRING(0,N)]/DONE,L2\nL2       IF(NUMERIC(A$2))/,DONE\n DONE   +BACKSCAN A[(B),(B),STRING(N,I\n        1),\"A\"]=STRING(N),STRING(5,M),\n         \"B2A\",A/,L2\n         WR  ITE \"1\"\n         PRIN T \", \",STRING(  8,I),\",B\",B\n* COMMENT 0\n         ROUTINE R3\nL3      +N =+(I)\n        C-NUMBER\n        1(B)/NU                                                         SEQ31695\n        CMB E R(\n          A) \n        1WRITE\n          A$5\n        1M=I*(I+7880644+LENGTH(B)/LENGTH(A)*M+4150+N-(I/NUMBER(A$1)-05/N\n         *NUMBER(B$M)*I)/M)*2\n         END ROUTIN  E\n         END\n" "BBAA 1\n" "step 1: n=0 notes=0 split=- trials=0 in=0 out=0 state=running next=4 held=[] numbers={N:0,M:0,I:0} strings={A:,B:}\nstep 2: n=0 notes=0 split=- trials=0 in=0 out=0 state=running next=5 held=[] numbers={N:0,M:0,I:0} strings={A:,B:}\nstep 3: n=0 notes=0 split=- trials=0 in=0 out=0 state=running next=9 held=[] numbers={N:0,M:0,I:0} strings={A:,B:}\nstep 4: n=0 notes=0 split=- trials=0 in=0 out=0 state=running next=16 held=[] numbers={N:0,M:0,I:0} strings={A:,B:}\nstep 5: n=0 notes=0 split=- trials=0 in=0 out=0 state=running next=17 held=[] numbers={N:0,M:0,I:0} strings={A:,B:}\nstep 6: n=0 notes=0 split=- trials=0 in=0 out=0 state=running next=18 held=[] numbers={N:0,M:0,I:0} strings={A:,B:}\nstep 7: n=0 notes=0 split=- trials=1 in=0 out=0 state=running next=19 held=[] numbers={N:0,M:0,I:0} strings={A:,B:}\nstep 8: n=0 notes=0 split=- trials=0 in=0 out=0 state=running next=20 held=[] numbers={N:0,M:0,I:0} strings={A:,B:}\nstep 9: n=0 notes=0 split=- trials=1 in=0 out=0 state=running next=19 held=[] numbers={N:0,M:0,I:0} strings={A:,B:}\nstep 10: n=0 notes=0 split=- trials=0 in=0 out=0 state=running next=20 held=[] numbers={N:0,M:0,I:0} strings={A:,B:}\nstep 11: n=0 notes=0 split=- trials=1 in=0 out=0 state=running next=19 held=[] numbers={N:0,M:0,I:0} strings={A:,B:}\nstep 12: n=0 notes=0 split=- trials=0 in=0 out=0 state=running next=20 held=[] numbers={N:0,M:0,I:0} strings={A:,B:}\nstep 13: n=0 notes=0 split=- trials=1 in=0 out=0 state=running next=19 held=[] numbers={N:0,M:0,I:0} strings={A:,B:}\nstep 14: n=0 notes=0 split=- trials=0 in=0 out=0 state=running next=20 held=[] numbers={N:0,M:0,I:0} strings={A:,B:}\nstep 15: n=0 notes=0 split=- trials=1 in=0 out=0 state=running next=19 held=[] numbers={N:0,M:0,I:0} strings={A:,B:}\nstep 16: n=0 notes=0 split=- trials=0 in=0 out=0 state=running next=20 held=[] numbers={N:0,M:0,I:0} strings={A:,B:}\nstep 17: n=0 notes=0 split=- trials=1 in=0 out=0 state=running next=19 held=[] numbers={N:0,M:0,I:0} strings={A:,B:}\nstep 18: n=0 notes=0 split=- trials=0 in=0 out=0 state=running next=20 held=[] numbers={N:0,M:0,I:0} strings={A:,B:}\nstep 19: n=0 notes=0 split=- trials=1 in=0 out=0 state=running next=19 held=[] numbers={N:0,M:0,I:0} strings={A:,B:}\nstep 20: n=0 notes=0 split=- trials=0 in=0 out=0 state=running next=20 held=[] numbers={N:0,M:0,I:0} strings={A:,B:}\nstep 21: n=0 notes=0 split=- trials=1 in=0 out=0 state=running next=19 held=[] numbers={N:0,M:0,I:0} strings={A:,B:}\nstep 22: n=0 notes=0 split=- trials=0 in=0 out=0 state=running next=20 held=[] numbers={N:0,M:0,I:0} strings={A:,B:}\nstep 23: n=0 notes=0 split=- trials=1 in=0 out=0 state=running next=19 held=[] numbers={N:0,M:0,I:0} strings={A:,B:}\nstep 24: n=0 notes=0 split=- trials=0 in=0 out=0 state=running next=20 held=[] numbers={N:0,M:0,I:0} strings={A:,B:}\nstep 25: n=0 notes=0 split=- trials=1 in=0 out=0 state=running next=19 held=[] numbers={N:0,M:0,I:0} strings={A:,B:}\nstep 26: n=0 notes=0 split=- trials=0 in=0 out=0 state=running next=20 held=[] numbers={N:0,M:0,I:0} strings={A:,B:}\nstep 27: n=0 notes=0 split=- trials=1 in=0 out=0 state=running next=19 held=[] numbers={N:0,M:0,I:0} strings={A:,B:}\nstep 28: n=0 notes=0 split=- trials=0 in=0 out=0 state=running next=20 held=[] numbers={N:0,M:0,I:0} strings={A:,B:}\nstep 29: n=0 notes=0 split=- trials=1 in=0 out=0 state=running next=19 held=[] numbers={N:0,M:0,I:0} strings={A:,B:}\nstep 30: n=0 notes=0 split=- trials=0 in=0 out=0 state=running next=20 held=[] numbers={N:0,M:0,I:0} strings={A:,B:}\nstep 31: n=0 notes=0 split=- trials=1 in=0 out=0 state=running next=19 held=[] numbers={N:0,M:0,I:0} strings={A:,B:}\nstep 32: n=0 notes=0 split=- trials=0 in=0 out=0 state=running next=20 held=[] numbers={N:0,M:0,I:0} strings={A:,B:}\nstep 33: n=0 notes=0 split=- trials=1 in=0 out=0 state=running next=19 held=[] numbers={N:0,M:0,I:0} strings={A:,B:}\nstep 34: n=0 notes=0 split=- trials=0 in=0 out=0 state=running next=20 held=[] numbers={N:0,M:0,I:0} strings={A:,B:}\nstep 35: n=0 notes=0 split=- trials=1 in=0 out=0 state=running next=19 held=[] numbers={N:0,M:0,I:0} strings={A:,B:}\nstep 36: n=0 notes=0 split=- trials=0 in=0 out=0 state=running next=20 held=[] numbers={N:0,M:0,I:0} strings={A:,B:}\nstep 37: n=0 notes=0 split=- trials=1 in=0 out=0 state=running next=19 held=[] numbers={N:0,M:0,I:0} strings={A:,B:}\nstep 38: n=0 notes=0 split=- trials=0 in=0 out=0 state=running next=20 held=[] numbers={N:0,M:0,I:0} strings={A:,B:}\nstep 39: n=0 notes=0 split=- trials=1 in=0 out=0 state=running next=19 held=[] numbers={N:0,M:0,I:0} strings={A:,B:}\nstep 40: n=0 notes=0 split=- trials=0 in=0 out=0 state=running next=20 held=[] numbers={N:0,M:0,I:0} strings={A:,B:}\nstep 41: n=0 notes=0 split=- trials=1 in=0 out=0 state=running next=19 held=[] numbers={N:0,M:0,I:0} strings={A:,B:}\nstep 42: n=0 notes=0 split=- trials=0 in=0 out=0 state=running next=20 held=[] numbers={N:0,M:0,I:0} strings={A:,B:}\nstep 43: n=0 notes=0 split=- trials=1 in=0 out=0 state=running next=19 held=[] numbers={N:0,M:0,I:0} strings={A:,B:}\nstep 44: n=0 notes=0 split=- trials=0 in=0 out=0 state=running next=20 held=[] numbers={N:0,M:0,I:0} strings={A:,B:}\nstep 45: n=0 notes=0 split=- trials=1 in=0 out=0 state=running next=19 held=[] numbers={N:0,M:0,I:0} strings={A:,B:}\nstep 46: n=0 notes=0 split=- trials=0 in=0 out=0 state=running next=20 held=[] numbers={N:0,M:0,I:0} strings={A:,B:}\nstep 47: n=0 notes=0 split=- trials=1 in=0 out=0 state=running next=19 held=[] numbers={N:0,M:0,I:0} strings={A:,B:}\nstep 48: n=0 notes=0 split=- trials=0 in=0 out=0 state=running next=20 held=[] numbers={N:0,M:0,I:0} strings={A:,B:}\nstep 49: n=0 notes=0 split=- trials=1 in=0 out=0 state=running next=19 held=[] numbers={N:0,M:0,I:0} strings={A:,B:}\nstep 50: n=0 notes=0 split=- trials=0 in=0 out=0 state=running next=20 held=[] numbers={N:0,M:0,I:0} strings={A:,B:}\nstep 51: n=0 notes=0 split=- trials=1 in=0 out=0 state=running next=19 held=[] numbers={N:0,M:0,I:0} strings={A:,B:}\nstep 52: n=0 notes=0 split=- trials=0 in=0 out=0 state=running next=20 held=[] numbers={N:0,M:0,I:0} strings={A:,B:}\nstep 53: n=0 notes=0 split=- trials=1 in=0 out=0 state=running next=19 held=[] numbers={N:0,M:0,I:0} strings={A:,B:}\nstep 54: n=0 notes=0 split=- trials=0 in=0 out=0 state=running next=20 held=[] numbers={N:0,M:0,I:0} strings={A:,B:}\nstep 55: n=0 notes=0 split=- trials=1 in=0 out=0 state=running next=19 held=[] numbers={N:0,M:0,I:0} strings={A:,B:}\nstep 56: n=0 notes=0 split=- trials=0 in=0 out=0 state=running next=20 held=[] numbers={N:0,M:0,I:0} strings={A:,B:}\nstep 57: n=0 notes=0 split=- trials=1 in=0 out=0 state=running next=19 held=[] numbers={N:0,M:0,I:0} strings={A:,B:}\nstep 58: n=0 notes=0 split=- trials=0 in=0 out=0 state=running next=20 held=[] numbers={N:0,M:0,I:0} strings={A:,B:}\nstep 59: n=0 notes=0 split=- trials=1 in=0 out=0 state=running next=19 held=[] numbers={N:0,M:0,I:0} strings={A:,B:}\nstep 60: n=0 notes=0 split=- trials=0 in=0 out=0 state=running next=20 held=[] numbers={N:0,M:0,I:0} strings={A:,B:}\n" ≡ true
unfolding agrees
v038 = refl

v039 : agrees "         PR  OG R  AM P\n         NUMBER N,M,I\n L1      B=\n* COMMENT 0\nDONE     A=\"/-$B \",\"**\"\n X9      C=C\n LOOP    C=C,\" \"                                                        SEQ50948\n* COMMENT 9\n L2      BACKSCAN C[(A)]=/X9\nL3       END\n" "" "step 1: n=0 notes=0 split=- trials=0 in=0 out=0 state=running next=5 held=[] numbers={N:0,M:0,I:0} strings={B:,A:,C:}\nstep 2: n=0 notes=0 split=- trials=0 in=0 out=0 state=running next=6 held=[] numbers={N:0,M:0,I:0} strings={B:,A:2f2d2442202a2a,C:}\nstep 3: n=0 notes=0 split=- trials=0 in=0 out=0 state=running next=7 held=[] numbers={N:0,M:0,I:0} strings={B:,A:2f2d2442202a2a,C:}\nstep 4: n=0 notes=0 split=- trials=0 in=0 out=0 state=running next=9 held=[] numbers={N:0,M:0,I:0} strings={B:,A:2f2d2442202a2a,C:20}\nstep 5: n=0 notes=0 split=0;1 trials=0 in=0 out=0 state=running next=6 held=[] numbers={N:0,M:0,I:0} strings={B:,A:20,C:}\nstep 6: n=0 notes=0 split=- trials=0 in=0 out=0 state=running next=7 held=[] numbers={N:0,M:0,I:0} strings={B:,A:20,C:}\nstep 7: n=0 notes=0 split=- trials=0 in=0 out=0 state=running next=9 held=[] numbers={N:0,M:0,I:0} strings={B:,A:20,C:20}\nstep 8: n=0 notes=0 split=0;1 trials=0 in=0 out=0 state=running next=6 held=[] numbers={N:0,M:0,I:0} strings={B:,A:20,C:}\nstep 9: n=0 notes=0 split=- trials=0 in=0 out=0 state=running next=7 held=[] numbers={N:0,M:0,I:0} strings={B:,A:20,C:}\nstep 10: n=0 notes=0 split=- trials=0 in=0 out=0 state=running next=9 held=[] numbers={N:0,M:0,I:0} strings={B:,A:20,C:20}\nstep 11: n=0 notes=0 split=0;1 trials=0 in=0 out=0 state=running next=6 held=[] numbers={N:0,M:0,I:0} strings={B:,A:20,C:}\nstep 12: n=0 notes=0 split=- trials=0 in=0 out=0 state=running next=7 held=[] numbers={N:0,M:0,I:0} strings={B:,A:20,C:}\nstep 13: n=0 notes=0 split=- trials=0 in=0 out=0 state=running next=9 held=[] numbers={N:0,M:0,I:0} strings={B:,A:20,C:20}\nstep 14: n=0 notes=0 split=0;1 trials=0 in=0 out=0 state=running next=6 held=[] numbers={N:0,M:0,I:0} strings={B:,A:20,C:}\nstep 15: n=0 notes=0 split=- trials=0 in=0 out=0 state=running next=7 held=[] numbers={N:0,M:0,I:0} strings={B:,A:20,C:}\nstep 16: n=0 notes=0 split=- trials=0 in=0 out=0 state=running next=9 held=[] numbers={N:0,M:0,I:0} strings={B:,A:20,C:20}\nstep 17: n=0 notes=0 split=0;1 trials=0 in=0 out=0 state=running next=6 held=[] numbers={N:0,M:0,I:0} strings={B:,A:20,C:}\nstep 18: n=0 notes=0 split=- trials=0 in=0 out=0 state=running next=7 held=[] numbers={N:0,M:0,I:0} strings={B:,A:20,C:}\nstep 19: n=0 notes=0 split=- trials=0 in=0 out=0 state=running next=9 held=[] numbers={N:0,M:0,I:0} strings={B:,A:20,C:20}\nstep 20: n=0 notes=0 split=0;1 trials=0 in=0 out=0 state=running next=6 held=[] numbers={N:0,M:0,I:0} strings={B:,A:20,C:}\nstep 21: n=0 notes=0 split=- trials=0 in=0 out=0 state=running next=7 held=[] numbers={N:0,M:0,I:0} strings={B:,A:20,C:}\nstep 22: n=0 notes=0 split=- trials=0 in=0 out=0 state=running next=9 held=[] numbers={N:0,M:0,I:0} strings={B:,A:20,C:20}\nstep 23: n=0 notes=0 split=0;1 trials=0 in=0 out=0 state=running next=6 held=[] numbers={N:0,M:0,I:0} strings={B:,A:20,C:}\nstep 24: n=0 notes=0 split=- trials=0 in=0 out=0 state=running next=7 held=[] numbers={N:0,M:0,I:0} strings={B:,A:20,C:}\nstep 25: n=0 notes=0 split=- trials=0 in=0 out=0 state=running next=9 held=[] numbers={N:0,M:0,I:0} strings={B:,A:20,C:20}\nstep 26: n=0 notes=0 split=0;1 trials=0 in=0 out=0 state=running next=6 held=[] numbers={N:0,M:0,I:0} strings={B:,A:20,C:}\nstep 27: n=0 notes=0 split=- trials=0 in=0 out=0 state=running next=7 held=[] numbers={N:0,M:0,I:0} strings={B:,A:20,C:}\nstep 28: n=0 notes=0 split=- trials=0 in=0 out=0 state=running next=9 held=[] numbers={N:0,M:0,I:0} strings={B:,A:20,C:20}\nstep 29: n=0 notes=0 split=0;1 trials=0 in=0 out=0 state=running next=6 held=[] numbers={N:0,M:0,I:0} strings={B:,A:20,C:}\nstep 30: n=0 notes=0 split=- trials=0 in=0 out=0 state=running next=7 held=[] numbers={N:0,M:0,I:0} strings={B:,A:20,C:}\nstep 31: n=0 notes=0 split=- trials=0 in=0 out=0 state=running next=9 held=[] numbers={N:0,M:0,I:0} strings={B:,A:20,C:20}\nstep 32: n=0 notes=0 split=0;1 trials=0 in=0 out=0 state=running next=6 held=[] numbers={N:0,M:0,I:0} strings={B:,A:20,C:}\nstep 33: n=0 notes=0 split=- trials=0 in=0 out=0 state=running next=7 held=[] numbers={N:0,M:0,I:0} strings={B:,A:20,C:}\nstep 34: n=0 notes=0 split=- trials=0 in=0 out=0 state=running next=9 held=[] numbers={N:0,M:0,I:0} strings={B:,A:20,C:20}\nstep 35: n=0 notes=0 split=0;1 trials=0 in=0 out=0 state=running next=6 held=[] numbers={N:0,M:0,I:0} strings={B:,A:20,C:}\nstep 36: n=0 notes=0 split=- trials=0 in=0 out=0 state=running next=7 held=[] numbers={N:0,M:0,I:0} strings={B:,A:20,C:}\nstep 37: n=0 notes=0 split=- trials=0 in=0 out=0 state=running next=9 held=[] numbers={N:0,M:0,I:0} strings={B:,A:20,C:20}\nstep 38: n=0 notes=0 split=0;1 trials=0 in=0 out=0 state=running next=6 held=[] numbers={N:0,M:0,I:0} strings={B:,A:20,C:}\nstep 39: n=0 notes=0 split=- trials=0 in=0 out=0 state=running next=7 held=[] numbers={N:0,M:0,I:0} strings={B:,A:20,C:}\nstep 40: n=0 notes=0 split=- trials=0 in=0 out=0 state=running next=9 held=[] numbers={N:0,M:0,I:0} strings={B:,A:20,C:20}\nstep 41: n=0 notes=0 split=0;1 trials=0 in=0 out=0 state=running next=6 held=[] numbers={N:0,M:0,I:0} strings={B:,A:20,C:}\nstep 42: n=0 notes=0 split=- trials=0 in=0 out=0 state=running next=7 held=[] numbers={N:0,M:0,I:0} strings={B:,A:20,C:}\nstep 43: n=0 notes=0 split=- trials=0 in=0 out=0 state=running next=9 held=[] numbers={N:0,M:0,I:0} strings={B:,A:20,C:20}\nstep 44: n=0 notes=0 split=0;1 trials=0 in=0 out=0 state=running next=6 held=[] numbers={N:0,M:0,I:0} strings={B:,A:20,C:}\nstep 45: n=0 notes=0 split=- trials=0 in=0 out=0 state=running next=7 held=[] numbers={N:0,M:0,I:0} strings={B:,A:20,C:}\nstep 46: n=0 notes=0 split=- trials=0 in=0 out=0 state=running next=9 held=[] numbers={N:0,M:0,I:0} strings={B:,A:20,C:20}\nstep 47: n=0 notes=0 split=0;1 trials=0 in=0 out=0 state=running next=6 held=[] numbers={N:0,M:0,I:0} strings={B:,A:20,C:}\nstep 48: n=0 notes=0 split=- trials=0 in=0 out=0 state=running next=7 held=[] numbers={N:0,M:0,I:0} strings={B:,A:20,C:}\nstep 49: n=0 notes=0 split=- trials=0 in=0 out=0 state=running next=9 held=[] numbers={N:0,M:0,I:0} strings={B:,A:20,C:20}\nstep 50: n=0 notes=0 split=0;1 trials=0 in=0 out=0 state=running next=6 held=[] numbers={N:0,M:0,I:0} strings={B:,A:20,C:}\nstep 51: n=0 notes=0 split=- trials=0 in=0 out=0 state=running next=7 held=[] numbers={N:0,M:0,I:0} strings={B:,A:20,C:}\nstep 52: n=0 notes=0 split=- trials=0 in=0 out=0 state=running next=9 held=[] numbers={N:0,M:0,I:0} strings={B:,A:20,C:20}\nstep 53: n=0 notes=0 split=0;1 trials=0 in=0 out=0 state=running next=6 held=[] numbers={N:0,M:0,I:0} strings={B:,A:20,C:}\nstep 54: n=0 notes=0 split=- trials=0 in=0 out=0 state=running next=7 held=[] numbers={N:0,M:0,I:0} strings={B:,A:20,C:}\nstep 55: n=0 notes=0 split=- trials=0 in=0 out=0 state=running next=9 held=[] numbers={N:0,M:0,I:0} strings={B:,A:20,C:20}\nstep 56: n=0 notes=0 split=0;1 trials=0 in=0 out=0 state=running next=6 held=[] numbers={N:0,M:0,I:0} strings={B:,A:20,C:}\nstep 57: n=0 notes=0 split=- trials=0 in=0 out=0 state=running next=7 held=[] numbers={N:0,M:0,I:0} strings={B:,A:20,C:}\nstep 58: n=0 notes=0 split=- trials=0 in=0 out=0 state=running next=9 held=[] numbers={N:0,M:0,I:0} strings={B:,A:20,C:20}\nstep 59: n=0 notes=0 split=0;1 trials=0 in=0 out=0 state=running next=6 held=[] numbers={N:0,M:0,I:0} strings={B:,A:20,C:}\nstep 60: n=0 notes=0 split=- trials=0 in=0 out=0 state=running next=7 held=[] numbers={N:0,M:0,I:0} strings={B:,A:20,C:}\n" ≡ true
unfolding agrees
v039 = refl

v040 : agrees "         PROGRAM LOTS\n         NUMBER N,M\n         IF(NULL(C))/L3\n         BACKSCAN F$6[(A$N),STRING(M),\"(22B0\"]=C                        SEQ90298\n         ROUTINE R2\n         TEXTLONG=STRING(M),\"A B,A2A B  A\",C\n         SCAN S1$1[\" A\",(LINE$1),(LINE)]/,L2\nL2       IF(NULL(C))/L2\n         ENDROUTINE\n         E  XECUTE R3\nDONE     F=\n         TEXTLONG$1=A$2,C,F$5\n         N=(4)\n         SC A N S1$0[(B$1)]/  L3\n         ROUTINE R1                                                     SEQ92135\n         N=M\n         M=  +591738 9+  136  \n         M=NUMBER(LINE$1)\nX9       ENDROUTINE\n         SCAN S1[(A),\"B(3\",(LINE),\"AA\"]=F$5,\"B,\",STRING(0,N),\"1\"\nLOOP     N=N+N+0\n         ROUTINE R3\n        CIF(NU M BE  R(C$5)<>-9)/,L\n IGNORED 1\n L1      M=(NUM BER  (A$N)+M)                                           SEQ94998\n         ENDROUTINE\nL3       END\n" "" "step 1: n=0 notes=0 split=- trials=0 in=0 out=0 state=running next=27 held=[] numbers={N:0,M:0} strings={C:,F:,A:,TEXTLONG:,S1:,LINE:,B:}\nstep 2: n=0 notes=0 split=- trials=0 in=0 out=0 state=finished next=27 held=[] numbers={N:0,M:0} strings={C:,F:,A:,TEXTLONG:,S1:,LINE:,B:}\n" ≡ true
unfolding agrees
v040 = refl

v041 : agrees "         PROGR  AM P\n         NUMBER N,M\n* COMMENT 2\n         BACKSCAN C[STRING(N,M),(B$1),(B$M),(A$M),\"11\"]=A,C,\"B,\",B$005\n         SC AN C[ B,\"B \",(A ),\"*+\",(B)  ,(B$0) ,\"2\"] \n         GO T O X9\n         S  CAN A $M [ (B$1),\"*\",(B$  M),(B  ),  \",A\",\",1\",( C$3)] =/X9\n\n         IF(M>NUMBER(C))/X9,X9\nL2       B=B,B\n         SCAN B$2[STRING(9,M)]=\"+2B\"/X9\n        XSCAN B[\"AB\",(\n        CC  $ 0),B,A$M\n        1,(C$1),(C),ST\n        XRING(M)]=\"B2\"\n        +,STRING(N,N  \n         ),A,\"\"\"\n         ROUTINE R2                                                     SEQ05661\n* COMMENT 0\n L1      A=\"1 12AB21B1BB\"\n* COMMENT 1\n DONE    ENDROUTIN  E\n         ROUTINE  R1 \n         B=\n LOOP    ENDROUTIN  E                                                   SEQ08518\n         READ(60) C$M/X9,L2\n* COMMENT 4\n X9      ROUTINE R3\nL3       ENDROUTINE\n         END\n" "A,-AAB\nBA0 2,-1B-1BB11A22--A,,00-0+++A +B+,,B, \n\nA22+2A-,0B,-\n,21B12\n1,1\n00A- +\n,A2B- 2A B-  ,02AAAA-2 --,1,0 -,0 1A100,\n" "step 1: n=0 notes=0 split=- trials=1 in=0 out=0 state=running next=5 held=[] numbers={N:0,M:0} strings={C:,B:,A:}\nstep 2: n=0 notes=0 split=- trials=2 in=0 out=0 state=running next=6 held=[] numbers={N:0,M:0} strings={C:,B:,A:}\nstep 3: n=0 notes=0 split=- trials=0 in=0 out=0 state=running next=28 held=[] numbers={N:0,M:0} strings={C:,B:,A:}\nstep 4: n=0 notes=0 split=- trials=0 in=0 out=0 state=running next=30 held=[] numbers={N:0,M:0} strings={C:,B:,A:}\nstep 5: n=0 notes=0 split=- trials=0 in=0 out=0 state=finished next=30 held=[] numbers={N:0,M:0} strings={C:,B:,A:}\n" ≡ true
unfolding agrees
v041 = refl

v042 : agrees "         PRO  GRAM LOTS  \n        CNU  MB  ER  N, M,I,K 9,C\n         OUNT  \nL2       A$M=\"\"\",STRING(COUNT)\nDONE     WRITE \"A\"\n        +PRINT A,\"B\"\n        C,\"A/\",STRIN\n         G(9,M)\nLOOP     B  ACKSCAN A$5[LINE$1, A  ] /L1\n         LIN  E=  \"A\"\nL3       N=941679*1*00-3\nX9       IF(  LENG TH(LINE)<>N)/, LOOP\n         IF  ( N UMBE  R(A)>=LENG  TH(C))/L2,  DO NE\n L1      END\n" " AA\nAB-A21\n1,,1,,\n001\n1B1B ,\n\n\n\n" "step 1: n=0 notes=0 split=- trials=0 in=0 out=0 state=running next=5 held=[] numbers={N:0,M:0,I:0,K9:0,COUNT:0} strings={A:2230,LINE:,C:}\nstep 2: n=0 notes=0 split=- trials=0 in=0 out=2 state=running next=6 held=[] numbers={N:0,M:0,I:0,K9:0,COUNT:0} strings={A:2230,LINE:,C:}\nstep 3: n=0 notes=0 split=- trials=0 in=0 out=17 state=running next=9 held=[] numbers={N:0,M:0,I:0,K9:0,COUNT:0} strings={A:2230,LINE:,C:}\nstep 4: n=0 notes=0 split=- trials=4 in=0 out=17 state=running next=10 held=[] numbers={N:0,M:0,I:0,K9:0,COUNT:0} strings={A:2230,LINE:,C:}\nstep 5: n=0 notes=0 split=- trials=0 in=0 out=17 state=running next=11 held=[] numbers={N:0,M:0,I:0,K9:0,COUNT:0} strings={A:2230,LINE:41,C:}\nstep 6: n=0 notes=0 split=- trials=0 in=0 out=17 state=running next=12 held=[] numbers={N:-3,M:0,I:0,K9:0,COUNT:0} strings={A:2230,LINE:41,C:}\nstep 7: n=0 notes=0 split=- trials=0 in=0 out=17 state=running next=13 held=[] numbers={N:-3,M:0,I:0,K9:0,COUNT:0} strings={A:2230,LINE:41,C:}\nstep 8: n=0 notes=1 split=- trials=0 in=0 out=17 state=running next=4 held=[] numbers={N:-3,M:0,I:0,K9:0,COUNT:0} strings={A:2230,LINE:41,C:}\nstep 9: n=0 notes=0 split=- trials=0 in=0 out=17 state=running next=5 held=[] numbers={N:-3,M:0,I:0,K9:0,COUNT:0} strings={A:22302230,LINE:41,C:}\nstep 10: n=0 notes=0 split=- trials=0 in=0 out=19 state=running next=6 held=[] numbers={N:-3,M:0,I:0,K9:0,COUNT:0} strings={A:22302230,LINE:41,C:}\nstep 11: n=0 notes=0 split=- trials=0 in=0 out=36 state=running next=9 held=[] numbers={N:-3,M:0,I:0,K9:0,COUNT:0} strings={A:22302230,LINE:41,C:}\nstep 12: n=0 notes=0 split=- trials=5 in=0 out=36 state=running next=10 held=[] numbers={N:-3,M:0,I:0,K9:0,COUNT:0} strings={A:22302230,LINE:41,C:}\nstep 13: n=0 notes=0 split=- trials=0 in=0 out=36 state=running next=11 held=[] numbers={N:-3,M:0,I:0,K9:0,COUNT:0} strings={A:22302230,LINE:41,C:}\nstep 14: n=0 notes=0 split=- trials=0 in=0 out=36 state=running next=12 held=[] numbers={N:-3,M:0,I:0,K9:0,COUNT:0} strings={A:22302230,LINE:41,C:}\nstep 15: n=0 notes=0 split=- trials=0 in=0 out=36 state=running next=13 held=[] numbers={N:-3,M:0,I:0,K9:0,COUNT:0} strings={A:22302230,LINE:41,C:}\nstep 16: n=0 notes=1 split=- trials=0 in=0 out=36 state=running next=4 held=[] numbers={N:-3,M:0,I:0,K9:0,COUNT:0} strings={A:22302230,LINE:41,C:}\nstep 17: n=0 notes=0 split=- trials=0 in=0 out=36 state=running next=5 held=[] numbers={N:-3,M:0,I:0,K9:0,COUNT:0} strings={A:223022302230,LINE:41,C:}\nstep 18: n=0 notes=0 split=- trials=0 in=0 out=38 state=running next=6 held=[] numbers={N:-3,M:0,I:0,K9:0,COUNT:0} strings={A:223022302230,LINE:41,C:}\nstep 19: n=0 notes=0 split=- trials=0 in=0 out=57 state=running next=9 held=[] numbers={N:-3,M:0,I:0,K9:0,COUNT:0} strings={A:223022302230,LINE:41,C:}\nstep 20: n=0 notes=0 split=- trials=6 in=0 out=57 state=running next=10 held=[] numbers={N:-3,M:0,I:0,K9:0,COUNT:0} strings={A:223022302230,LINE:41,C:}\nstep 21: n=0 notes=0 split=- trials=0 in=0 out=57 state=running next=11 held=[] numbers={N:-3,M:0,I:0,K9:0,COUNT:0} strings={A:223022302230,LINE:41,C:}\nstep 22: n=0 notes=0 split=- trials=0 in=0 out=57 state=running next=12 held=[] numbers={N:-3,M:0,I:0,K9:0,COUNT:0} strings={A:223022302230,LINE:41,C:}\nstep 23: n=0 notes=0 split=- trials=0 in=0 out=57 state=running next=13 held=[] numbers={N:-3,M:0,I:0,K9:0,COUNT:0} strings={A:223022302230,LINE:41,C:}\nstep 24: n=0 notes=1 split=- trials=0 in=0 out=57 state=running next=4 held=[] numbers={N:-3,M:0,I:0,K9:0,COUNT:0} strings={A:223022302230,LINE:41,C:}\nstep 25: n=0 notes=0 split=- trials=0 in=0 out=57 state=running next=5 held=[] numbers={N:-3,M:0,I:0,K9:0,COUNT:0} strings={A:2230223022302230,LINE:41,C:}\nstep 26: n=0 notes=0 split=- trials=0 in=0 out=59 state=running next=6 held=[] numbers={N:-3,M:0,I:0,K9:0,COUNT:0} strings={A:2230223022302230,LINE:41,C:}\nstep 27: n=0 notes=0 split=- trials=0 in=0 out=80 state=running next=9 held=[] numbers={N:-3,M:0,I:0,K9:0,COUNT:0} strings={A:2230223022302230,LINE:41,C:}\nstep 28: n=0 notes=0 split=- trials=6 in=0 out=80 state=running next=10 held=[] numbers={N:-3,M:0,I:0,K9:0,COUNT:0} strings={A:2230223022302230,LINE:41,C:}\nstep 29: n=0 notes=0 split=- trials=0 in=0 out=80 state=running next=11 held=[] numbers={N:-3,M:0,I:0,K9:0,COUNT:0} strings={A:2230223022302230,LINE:41,C:}\nstep 30: n=0 notes=0 split=- trials=0 in=0 out=80 state=running next=12 held=[] numbers={N:-3,M:0,I:0,K9:0,COUNT:0} strings={A:2230223022302230,LINE:41,C:}\nstep 31: n=0 notes=0 split=- trials=0 in=0 out=80 state=running next=13 held=[] numbers={N:-3,M:0,I:0,K9:0,COUNT:0} strings={A:2230223022302230,LINE:41,C:}\nstep 32: n=0 notes=1 split=- trials=0 in=0 out=80 state=running next=4 held=[] numbers={N:-3,M:0,I:0,K9:0,COUNT:0} strings={A:2230223022302230,LINE:41,C:}\nstep 33: n=0 notes=0 split=- trials=0 in=0 out=80 state=running next=5 held=[] numbers={N:-3,M:0,I:0,K9:0,COUNT:0} strings={A:22302230223022302230,LINE:41,C:}\nstep 34: n=0 notes=0 split=- trials=0 in=0 out=82 state=running next=6 held=[] numbers={N:-3,M:0,I:0,K9:0,COUNT:0} strings={A:22302230223022302230,LINE:41,C:}\nstep 35: n=0 notes=0 split=- trials=0 in=0 out=105 state=running next=9 held=[] numbers={N:-3,M:0,I:0,K9:0,COUNT:0} strings={A:22302230223022302230,LINE:41,C:}\nstep 36: n=0 notes=0 split=- trials=6 in=0 out=105 state=running next=10 held=[] numbers={N:-3,M:0,I:0,K9:0,COUNT:0} strings={A:22302230223022302230,LINE:41,C:}\nstep 37: n=0 notes=0 split=- trials=0 in=0 out=105 state=running next=11 held=[] numbers={N:-3,M:0,I:0,K9:0,COUNT:0} strings={A:22302230223022302230,LINE:41,C:}\nstep 38: n=0 notes=0 split=- trials=0 in=0 out=105 state=running next=12 held=[] numbers={N:-3,M:0,I:0,K9:0,COUNT:0} strings={A:22302230223022302230,LINE:41,C:}\nstep 39: n=0 notes=0 split=- trials=0 in=0 out=105 state=running next=13 held=[] numbers={N:-3,M:0,I:0,K9:0,COUNT:0} strings={A:22302230223022302230,LINE:41,C:}\nstep 40: n=0 notes=1 split=- trials=0 in=0 out=105 state=running next=4 held=[] numbers={N:-3,M:0,I:0,K9:0,COUNT:0} strings={A:22302230223022302230,LINE:41,C:}\nstep 41: n=0 notes=0 split=- trials=0 in=0 out=105 state=running next=5 held=[] numbers={N:-3,M:0,I:0,K9:0,COUNT:0} strings={A:223022302230223022302230,LINE:41,C:}\nstep 42: n=0 notes=0 split=- trials=0 in=0 out=107 state=running next=6 held=[] numbers={N:-3,M:0,I:0,K9:0,COUNT:0} strings={A:223022302230223022302230,LINE:41,C:}\nstep 43: n=0 notes=0 split=- trials=0 in=0 out=132 state=running next=9 held=[] numbers={N:-3,M:0,I:0,K9:0,COUNT:0} strings={A:223022302230223022302230,LINE:41,C:}\nstep 44: n=0 notes=0 split=- trials=6 in=0 out=132 state=running next=10 held=[] numbers={N:-3,M:0,I:0,K9:0,COUNT:0} strings={A:223022302230223022302230,LINE:41,C:}\nstep 45: n=0 notes=0 split=- trials=0 in=0 out=132 state=running next=11 held=[] numbers={N:-3,M:0,I:0,K9:0,COUNT:0} strings={A:223022302230223022302230,LINE:41,C:}\nstep 46: n=0 notes=0 split=- trials=0 in=0 out=132 state=running next=12 held=[] numbers={N:-3,M:0,I:0,K9:0,COUNT:0} strings={A:223022302230223022302230,LINE:41,C:}\nstep 47: n=0 notes=0 split=- trials=0 in=0 out=132 state=running next=13 held=[] numbers={N:-3,M:0,I:0,K9:0,COUNT:0} strings={A:223022302230223022302230,LINE:41,C:}\nstep 48: n=0 notes=1 split=- trials=0 in=0 out=132 state=running next=4 held=[] numbers={N:-3,M:0,I:0,K9:0,COUNT:0} strings={A:223022302230223022302230,LINE:41,C:}\nstep 49: n=0 notes=0 split=- trials=0 in=0 out=132 state=running next=5 held=[] numbers={N:-3,M:0,I:0,K9:0,COUNT:0} strings={A:2230223022302230223022302230,LINE:41,C:}\nstep 50: n=0 notes=0 split=- trials=0 in=0 out=134 state=running next=6 held=[] numbers={N:-3,M:0,I:0,K9:0,COUNT:0} strings={A:2230223022302230223022302230,LINE:41,C:}\nstep 51: n=0 notes=0 split=- trials=0 in=0 out=161 state=running next=9 held=[] numbers={N:-3,M:0,I:0,K9:0,COUNT:0} strings={A:2230223022302230223022302230,LINE:41,C:}\nstep 52: n=0 notes=0 split=- trials=6 in=0 out=161 state=running next=10 held=[] numbers={N:-3,M:0,I:0,K9:0,COUNT:0} strings={A:2230223022302230223022302230,LINE:41,C:}\nstep 53: n=0 notes=0 split=- trials=0 in=0 out=161 state=running next=11 held=[] numbers={N:-3,M:0,I:0,K9:0,COUNT:0} strings={A:2230223022302230223022302230,LINE:41,C:}\nstep 54: n=0 notes=0 split=- trials=0 in=0 out=161 state=running next=12 held=[] numbers={N:-3,M:0,I:0,K9:0,COUNT:0} strings={A:2230223022302230223022302230,LINE:41,C:}\nstep 55: n=0 notes=0 split=- trials=0 in=0 out=161 state=running next=13 held=[] numbers={N:-3,M:0,I:0,K9:0,COUNT:0} strings={A:2230223022302230223022302230,LINE:41,C:}\nstep 56: n=0 notes=1 split=- trials=0 in=0 out=161 state=running next=4 held=[] numbers={N:-3,M:0,I:0,K9:0,COUNT:0} strings={A:2230223022302230223022302230,LINE:41,C:}\nstep 57: n=0 notes=0 split=- trials=0 in=0 out=161 state=running next=5 held=[] numbers={N:-3,M:0,I:0,K9:0,COUNT:0} strings={A:22302230223022302230223022302230,LINE:41,C:}\nstep 58: n=0 notes=0 split=- trials=0 in=0 out=163 state=running next=6 held=[] numbers={N:-3,M:0,I:0,K9:0,COUNT:0} strings={A:22302230223022302230223022302230,LINE:41,C:}\nstep 59: n=0 notes=0 split=- trials=0 in=0 out=192 state=running next=9 held=[] numbers={N:-3,M:0,I:0,K9:0,COUNT:0} strings={A:22302230223022302230223022302230,LINE:41,C:}\nstep 60: n=0 notes=0 split=- trials=6 in=0 out=192 state=running next=10 held=[] numbers={N:-3,M:0,I:0,K9:0,COUNT:0} strings={A:22302230223022302230223022302230,LINE:41,C:}\n" ≡ true
unfolding agrees
v042 = refl

v043 : agrees "         PROGR  AM   TES  T1\n         NUMBER N,M  ,I\n         ROU  TINE R2\nLOOP     A=LINE$5\nX9       ENDROUT INE\n         ROUTINE R1\n* COMMENT 0\nL2       ENDROUTINE\nDONE     F=F,STRING(0,I)\nL1       END" "100 1A\nB-+2-BA0BB--2B2,B02BA +A20B1-2A10A01 ,,A" "step 1: n=0 notes=0 split=- trials=0 in=0 out=0 state=running next=6 held=[] numbers={N:0,M:0,I:0} strings={A:,LINE:,F:}\nstep 2: n=0 notes=0 split=- trials=0 in=0 out=0 state=running next=9 held=[] numbers={N:0,M:0,I:0} strings={A:,LINE:,F:}\nstep 3: n=0 notes=0 split=- trials=0 in=0 out=0 state=running next=10 held=[] numbers={N:0,M:0,I:0} strings={A:,LINE:,F:30}\nstep 4: n=0 notes=0 split=- trials=0 in=0 out=0 state=finished next=10 held=[] numbers={N:0,M:0,I:0} strings={A:,LINE:,F:30}\n" ≡ true
unfolding agrees
v043 = refl

v044 : agrees "         PROGRAM  LOTS\n         NUMBER  N,M,I ,K9,COUNT\n         IF(NUMER IC(C))/,DONE  \n         B=S1$3\n\n         A=B$1\n         W RITE(61  ) \n         SCAN B[S1,\"B\"]/DONE,DONE\n         SCAN S1$6[(B),(B),(C)]/DONE\n         GOTO DONE\n         K  9=3*(  2+NUMBER(A  $N)*NUMB  ER(S 1$6) )\n         SCAN  S1[(  B),(B),\"A\",(B$0), \"A\",(B  ),A ]\n         ROUTINE    R2\nL2      +M=N*LENGTH(\n        XA)+LENGTH(C\n         )+684782\n         C=\"2 A\",C,C$0\n        XPRINT \" 1\",S1,STRING(I)\n         ,A\nLOOP     EN  DROU T  I NE\nDONE     SCAN B[\"1\"]=B,STRING(K9),A\n         SCAN   B[(C$  2),(S1$0),(C$M  )]=S 1$COUN T /  DONE,DONE\n         ROUTINE R1\n X9      S1=STRING(M),\" \",S1$6,S1\n   \nL1       S1=\nL3       ENDROUTINE\n         END \n" "AA \n\nA\n--A+,+ ,AB0B1A,2AA , ,A12AA +0A- AA,02A," "step 1: n=0 notes=0 split=- trials=0 in=0 out=0 state=running next=21 held=[] numbers={N:0,M:0,I:0,K9:0,COUNT:0} strings={C:,B:,S1:,A:}\nstep 2: n=0 notes=0 split=- trials=1 in=0 out=0 state=running next=22 held=[] numbers={N:0,M:0,I:0,K9:0,COUNT:0} strings={C:,B:,S1:,A:}\nstep 3: n=0 notes=0 split=- trials=1 in=0 out=0 state=running next=21 held=[] numbers={N:0,M:0,I:0,K9:0,COUNT:0} strings={C:,B:,S1:,A:}\nstep 4: n=0 notes=0 split=- trials=1 in=0 out=0 state=running next=22 held=[] numbers={N:0,M:0,I:0,K9:0,COUNT:0} strings={C:,B:,S1:,A:}\nstep 5: n=0 notes=0 split=- trials=1 in=0 out=0 state=running next=21 held=[] numbers={N:0,M:0,I:0,K9:0,COUNT:0} strings={C:,B:,S1:,A:}\nstep 6: n=0 notes=0 split=- trials=1 in=0 out=0 state=running next=22 held=[] numbers={N:0,M:0,I:0,K9:0,COUNT:0} strings={C:,B:,S1:,A:}\nstep 7: n=0 notes=0 split=- trials=1 in=0 out=0 state=running next=21 held=[] numbers={N:0,M:0,I:0,K9:0,COUNT:0} strings={C:,B:,S1:,A:}\nstep 8: n=0 notes=0 split=- trials=1 in=0 out=0 state=running next=22 held=[] numbers={N:0,M:0,I:0,K9:0,COUNT:0} strings={C:,B:,S1:,A:}\nstep 9: n=0 notes=0 split=- trials=1 in=0 out=0 state=running next=21 held=[] numbers={N:0,M:0,I:0,K9:0,COUNT:0} strings={C:,B:,S1:,A:}\nstep 10: n=0 notes=0 split=- trials=1 in=0 out=0 state=running next=22 held=[] numbers={N:0,M:0,I:0,K9:0,COUNT:0} strings={C:,B:,S1:,A:}\nstep 11: n=0 notes=0 split=- trials=1 in=0 out=0 state=running next=21 held=[] numbers={N:0,M:0,I:0,K9:0,COUNT:0} strings={C:,B:,S1:,A:}\nstep 12: n=0 notes=0 split=- trials=1 in=0 out=0 state=running next=22 held=[] numbers={N:0,M:0,I:0,K9:0,COUNT:0} strings={C:,B:,S1:,A:}\nstep 13: n=0 notes=0 split=- trials=1 in=0 out=0 state=running next=21 held=[] numbers={N:0,M:0,I:0,K9:0,COUNT:0} strings={C:,B:,S1:,A:}\nstep 14: n=0 notes=0 split=- trials=1 in=0 out=0 state=running next=22 held=[] numbers={N:0,M:0,I:0,K9:0,COUNT:0} strings={C:,B:,S1:,A:}\nstep 15: n=0 notes=0 split=- trials=1 in=0 out=0 state=running next=21 held=[] numbers={N:0,M:0,I:0,K9:0,COUNT:0} strings={C:,B:,S1:,A:}\nstep 16: n=0 notes=0 split=- trials=1 in=0 out=0 state=running next=22 held=[] numbers={N:0,M:0,I:0,K9:0,COUNT:0} strings={C:,B:,S1:,A:}\nstep 17: n=0 notes=0 split=- trials=1 in=0 out=0 state=running next=21 held=[] numbers={N:0,M:0,I:0,K9:0,COUNT:0} strings={C:,B:,S1:,A:}\nstep 18: n=0 notes=0 split=- trials=1 in=0 out=0 state=running next=22 held=[] numbers={N:0,M:0,I:0,K9:0,COUNT:0} strings={C:,B:,S1:,A:}\nstep 19: n=0 notes=0 split=- trials=1 in=0 out=0 state=running next=21 held=[] numbers={N:0,M:0,I:0,K9:0,COUNT:0} strings={C:,B:,S1:,A:}\nstep 20: n=0 notes=0 split=- trials=1 in=0 out=0 state=running next=22 held=[] numbers={N:0,M:0,I:0,K9:0,COUNT:0} strings={C:,B:,S1:,A:}\nstep 21: n=0 notes=0 split=- trials=1 in=0 out=0 state=running next=21 held=[] numbers={N:0,M:0,I:0,K9:0,COUNT:0} strings={C:,B:,S1:,A:}\nstep 22: n=0 notes=0 split=- trials=1 in=0 out=0 state=running next=22 held=[] numbers={N:0,M:0,I:0,K9:0,COUNT:0} strings={C:,B:,S1:,A:}\nstep 23: n=0 notes=0 split=- trials=1 in=0 out=0 state=running next=21 held=[] numbers={N:0,M:0,I:0,K9:0,COUNT:0} strings={C:,B:,S1:,A:}\nstep 24: n=0 notes=0 split=- trials=1 in=0 out=0 state=running next=22 held=[] numbers={N:0,M:0,I:0,K9:0,COUNT:0} strings={C:,B:,S1:,A:}\nstep 25: n=0 notes=0 split=- trials=1 in=0 out=0 state=running next=21 held=[] numbers={N:0,M:0,I:0,K9:0,COUNT:0} strings={C:,B:,S1:,A:}\nstep 26: n=0 notes=0 split=- trials=1 in=0 out=0 state=running next=22 held=[] numbers={N:0,M:0,I:0,K9:0,COUNT:0} strings={C:,B:,S1:,A:}\nstep 27: n=0 notes=0 split=- trials=1 in=0 out=0 state=running next=21 held=[] numbers={N:0,M:0,I:0,K9:0,COUNT:0} strings={C:,B:,S1:,A:}\nstep 28: n=0 notes=0 split=- trials=1 in=0 out=0 state=running next=22 held=[] numbers={N:0,M:0,I:0,K9:0,COUNT:0} strings={C:,B:,S1:,A:}\nstep 29: n=0 notes=0 split=- trials=1 in=0 out=0 state=running next=21 held=[] numbers={N:0,M:0,I:0,K9:0,COUNT:0} strings={C:,B:,S1:,A:}\nstep 30: n=0 notes=0 split=- trials=1 in=0 out=0 state=running next=22 held=[] numbers={N:0,M:0,I:0,K9:0,COUNT:0} strings={C:,B:,S1:,A:}\nstep 31: n=0 notes=0 split=- trials=1 in=0 out=0 state=running next=21 held=[] numbers={N:0,M:0,I:0,K9:0,COUNT:0} strings={C:,B:,S1:,A:}\nstep 32: n=0 notes=0 split=- trials=1 in=0 out=0 state=running next=22 held=[] numbers={N:0,M:0,I:0,K9:0,COUNT:0} strings={C:,B:,S1:,A:}\nstep 33: n=0 notes=0 split=- trials=1 in=0 out=0 state=running next=21 held=[] numbers={N:0,M:0,I:0,K9:0,COUNT:0} strings={C:,B:,S1:,A:}\nstep 34: n=0 notes=0 split=- trials=1 in=0 out=0 state=running next=22 held=[] numbers={N:0,M:0,I:0,K9:0,COUNT:0} strings={C:,B:,S1:,A:}\nstep 35: n=0 notes=0 split=- trials=1 in=0 out=0 state=running next=21 held=[] numbers={N:0,M:0,I:0,K9:0,COUNT:0} strings={C:,B:,S1:,A:}\nstep 36: n=0 notes=0 split=- trials=1 in=0 out=0 state=running next=22 held=[] numbers={N:0,M:0,I:0,K9:0,COUNT:0} strings={C:,B:,S1:,A:}\nstep 37: n=0 notes=0 split=- trials=1 in=0 out=0 state=running next=21 held=[] numbers={N:0,M:0,I:0,K9:0,COUNT:0} strings={C:,B:,S1:,A:}\nstep 38: n=0 notes=0 split=- trials=1 in=0 out=0 state=running next=22 held=[] numbers={N:0,M:0,I:0,K9:0,COUNT:0} strings={C:,B:,S1:,A:}\nstep 39: n=0 notes=0 split=- trials=1 in=0 out=0 state=running next=21 held=[] numbers={N:0,M:0,I:0,K9:0,COUNT:0} strings={C:,B:,S1:,A:}\nstep 40: n=0 notes=0 split=- trials=1 in=0 out=0 state=running next=22 held=[] numbers={N:0,M:0,I:0,K9:0,COUNT:0} strings={C:,B:,S1:,A:}\nstep 41: n=0 notes=0 split=- trials=1 in=0 out=0 state=running next=21 held=[] numbers={N:0,M:0,I:0,K9:0,COUNT:0} strings={C:,B:,S1:,A:}\nstep 42: n=0 notes=0 split=- trials=1 in=0 out=0 state=running next=22 held=[] numbers={N:0,M:0,I:0,K9:0,COUNT:0} strings={C:,B:,S1:,A:}\nstep 43: n=0 notes=0 split=- trials=1 in=0 out=0 state=running next=21 held=[] numbers={N:0,M:0,I:0,K9:0,COUNT:0} strings={C:,B:,S1:,A:}\nstep 44: n=0 notes=0 split=- trials=1 in=0 out=0 state=running next=22 held=[] numbers={N:0,M:0,I:0,K9:0,COUNT:0} strings={C:,B:,S1:,A:}\nstep 45: n=0 notes=0 split=- trials=1 in=0 out=0 state=running next=21 held=[] numbers={N:0,M:0,I:0,K9:0,COUNT:0} strings={C:,B:,S1:,A:}\nstep 46: n=0 notes=0 split=- trials=1 in=0 out=0 state=running next=22 held=[] numbers={N:0,M:0,I:0,K9:0,COUNT:0} strings={C:,B:,S1:,A:}\nstep 47: n=0 notes=0 split=- trials=1 in=0 out=0 state=running next=21 held=[] numbers={N:0,M:0,I:0,K9:0,COUNT:0} strings={C:,B:,S1:,A:}\nstep 48: n=0 notes=0 split=- trials=1 in=0 out=0 state=running next=22 held=[] numbers={N:0,M:0,I:0,K9:0,COUNT:0} strings={C:,B:,S1:,A:}\nstep 49: n=0 notes=0 split=- trials=1 in=0 out=0 state=running next=21 held=[] numbers={N:0,M:0,I:0,K9:0,COUNT:0} strings={C:,B:,S1:,A:}\nstep 50: n=0 notes=0 split=- trials=1 in=0 out=0 state=running next=22 held=[] numbers={N:0,M:0,I:0,K9:0,COUNT:0} strings={C:,B:,S1:,A:}\nstep 51: n=0 notes=0 split=- trials=1 in=0 out=0 state=running next=21 held=[] numbers={N:0,M:0,I:0,K9:0,COUNT:0} strings={C:,B:,S1:,A:}\nstep 52: n=0 notes=0 split=- trials=1 in=0 out=0 state=running next=22 held=[] numbers={N:0,M:0,I:0,K9:0,COUNT:0} strings={C:,B:,S1:,A:}\nstep 53: n=0 notes=0 split=- trials=1 in=0 out=0 state=running next=21 held=[] numbers={N:0,M:0,I:0,K9:0,COUNT:0} strings={C:,B:,S1:,A:}\nstep 54: n=0 notes=0 split=- trials=1 in=0 out=0 state=running next=22 held=[] numbers={N:0,M:0,I:0,K9:0,COUNT:0} strings={C:,B:,S1:,A:}\nstep 55: n=0 notes=0 split=- trials=1 in=0 out=0 state=running next=21 held=[] numbers={N:0,M:0,I:0,K9:0,COUNT:0} strings={C:,B:,S1:,A:}\nstep 56: n=0 notes=0 split=- trials=1 in=0 out=0 state=running next=22 held=[] numbers={N:0,M:0,I:0,K9:0,COUNT:0} strings={C:,B:,S1:,A:}\nstep 57: n=0 notes=0 split=- trials=1 in=0 out=0 state=running next=21 held=[] numbers={N:0,M:0,I:0,K9:0,COUNT:0} strings={C:,B:,S1:,A:}\nstep 58: n=0 notes=0 split=- trials=1 in=0 out=0 state=running next=22 held=[] numbers={N:0,M:0,I:0,K9:0,COUNT:0} strings={C:,B:,S1:,A:}\nstep 59: n=0 notes=0 split=- trials=1 in=0 out=0 state=running next=21 held=[] numbers={N:0,M:0,I:0,K9:0,COUNT:0} strings={C:,B:,S1:,A:}\nstep 60: n=0 notes=0 split=- trials=1 in=0 out=0 state=running next=22 held=[] numbers={N:0,M:0,I:0,K9:0,COUNT:0} strings={C:,B:,S1:,A:}\n" ≡ true
unfolding agrees
v044 = refl

v045 : agrees "         PROGRAM P\n         NUMBER N,M,I,SCAN\n         GOTO DONE\n L2      ROUTINE R2\nL3       ENDROUTIN E\nL1       ROUTINE R1\n         READ(60) B\n\n         EX ECUTE R2\n LOOP    GOTO LOOP\n         ENDRO  UTINE\nDONE     I=(003723*  0/I-I)-SCA N- SCAN-4250\nX9       EXECUTE R2\n         EN  D\n" "2" "step 1: n=0 notes=0 split=- trials=0 in=0 out=0 state=running next=12 held=[] numbers={N:0,M:0,I:0,SCAN:0} strings={B:}\nstep 2: n=18 notes=0 split=- trials=0 in=0 out=0 state=stopped next=12 held=[] numbers={N:0,M:0,I:0,SCAN:0} strings={B:}\n" ≡ true
unfolding agrees
v045 = refl

v046 : agrees "         PROGRAM LOTS\nSTART    NUMBER N,M,I,K9,COUNT\n         ROUTI NE R3\nL3      1SCAN A[B,(C),\"A\n        +, B2\"]=STRING(C\n         OUNT),\"A\",C$0\n         I F(NUMB  ER  (A)<=K9)/,L3  \n         E NDROUTINE\n         READ A\n         IF(LENGTH(TEXTLONG)=N)/L1\n         SCAN TEXTLONG[(LINE)]=\"AA+\",\" \",\"0$\",\"AA,\"/L2,L2\n         C=TEXTLONG\n         B=S1  , C$N,\"1\",TEXTLO NG $5\n* COMMENT 6\n L2      I=10/2683                                                      SEQ22207\n* COMMENT 8\n         B=\"\"\"\n         IF(  NU  L L(C))/  L2\n         READ B/L2\n   \n L1      LINE=F,\", 1AA\"                                                 SEQ85169\n        CCOU NT = +0  -N+((N)*C  OU NT)- M/NUM  BER(L  INE$6)+(2 71521 0\n          *L EN  GTH(S  1  ))*CO U NT\n         M=LENGTH(S1)\n         ROUTI NE R2\nX9       EN  D  ROUTINE\n         ROUTINE R1\n         PRINT   ST  RING(  M),  A\nLOOP     N=(M*M)*0*I*N*K9\nDONE     TEXTLONG$COUNT=STRING(COUNT,I),\"11A2B\",\"+)\",\"2A\"\n         ENDROUTINE\n         M=N\n         END\n" "" "step 1: n=0 notes=0 split=- trials=0 in=0 out=0 state=running next=9 held=[] numbers={N:0,M:0,I:0,K9:0,COUNT:0} strings={A:,B:,C:,TEXTLONG:,LINE:,S1:,F:}\nstep 2: n=0 notes=0 split=- trials=0 in=0 out=0 state=running next=10 held=[] numbers={N:0,M:0,I:0,K9:0,COUNT:0} strings={A:,B:,C:,TEXTLONG:,LINE:,S1:,F:}\nstep 3: n=0 notes=0 split=- trials=0 in=0 out=0 state=running next=21 held=[] numbers={N:0,M:0,I:0,K9:0,COUNT:0} strings={A:,B:,C:,TEXTLONG:,LINE:,S1:,F:}\nstep 4: n=0 notes=0 split=- trials=0 in=0 out=0 state=running next=22 held=[] numbers={N:0,M:0,I:0,K9:0,COUNT:0} strings={A:,B:,C:,TEXTLONG:,LINE:2c20314141,S1:,F:}\nstep 5: n=18 notes=0 split=- trials=0 in=0 out=0 state=stopped next=22 held=[] numbers={N:0,M:0,I:0,K9:0,COUNT:0} strings={A:,B:,C:,TEXTLONG:,LINE:2c20314141,S1:,F:}\n" ≡ true
unfolding agrees
v046 = refl

v047 : agrees "         PRO GRAM P \n         NUMBER N,M,I\n LOOP    ROUTINE R2  \n         SCAN B[]/,L1\n         IF(+  2=NUMBER( LINE))/,L1\n L1      ENDROUTINE                                                     SEQ65756\n L3      ROUTINE R1\n* COMMENT 8\n         READ A\n         N=M\nX9       E NDROUTINE\nL2      *I=NUMBER(LINE)-((M/N-(+LENGTH(B)*3/1558549/I+1672354)+(N-LENGTH\n        X(A)*140*128-152/N)-N*(LENGTH(S1)*388)+(NUMBER(LINE$I))+M))+(I-(\n         NUMBER(S1)-(4)/3*3-6)/M*NUMBER(S1))*N\nDONE     END                                                            SEQ09555" "A,-0,++0  B1\n\nBB-,,2A0 2-A- 0+BAA21 +0111A 2A+111+-02+\n - B 2\n" "step 1: n=0 notes=0 split=- trials=0 in=0 out=0 state=running next=7 held=[] numbers={N:0,M:0,I:0} strings={B:,LINE:,A:,S1:}\nstep 2: n=0 notes=0 split=- trials=0 in=0 out=0 state=running next=12 held=[] numbers={N:0,M:0,I:0} strings={B:,LINE:,A:,S1:}\nstep 3: n=18 notes=0 split=- trials=0 in=0 out=0 state=stopped next=12 held=[] numbers={N:0,M:0,I:0} strings={B:,LINE:,A:,S1:}\n" ≡ true
unfolding agrees
v047 = refl

v048 : agrees "         PROGRAM P\n         NUMBER N \nLOOP     SCAN   B[B$N]=\"A\"/,L  OOP\n         READ A/LOOP,LOOP\n        *N=N-(LENGTH(A)/N-(975+LENGTH(C)/LENGTH(C)/(NUMBER(B$6))/N/LENGT\n         H(A)+0003))\n         S CAN  C[B,(B  ),(A),C$  N ,(B $0 ) ]=A$  N ,STRIN  G(N)\n         ROUTINE R1\n L2      A=\"B2 \"\nL3       C=\"=*\",\"1\",C,\",B  11A,A1AA\"\n X9      B=  A,  S  T RI  NG(-  0, N),\"  A\",C\nL1       IF(NULL(B))/,L1  \nDONE     ENDROUTINE\n         READ A\n         READ B/,LOOP\n         N=NUMBER(A)\n         EXECUTE R1\n         PRINT( 61)  STRING(3  ,N) \n        XC$N  =B,                                                       SEQ40335\n        * \"A11\",C\n         $N \n         N=N*LENGTH(C)\n* COMMENT 6\n         B=B$4,A\n         E  N D\n" "A\n --\n\n+,A\n,0A02 +A-++-,A-BA-B-1B10A++21A212,A-2 -+\n \n \nA11\n" "step 1: n=0 notes=0 split=0;0 trials=1 in=0 out=0 state=running next=4 held=[] numbers={N:0} strings={B:41,A:,C:}\nstep 2: n=0 notes=0 split=- trials=0 in=2 out=0 state=running next=3 held=[] numbers={N:0} strings={B:41,A:41,C:}\nstep 3: n=0 notes=0 split=0;0 trials=1 in=2 out=0 state=running next=4 held=[] numbers={N:0} strings={B:4141,A:41,C:}\nstep 4: n=0 notes=0 split=- trials=0 in=6 out=0 state=running next=3 held=[] numbers={N:0} strings={B:4141,A:202d2d,C:}\nstep 5: n=0 notes=0 split=0;0 trials=1 in=6 out=0 state=running next=4 held=[] numbers={N:0} strings={B:414141,A:202d2d,C:}\nstep 6: n=0 notes=0 split=- trials=0 in=7 out=0 state=running next=3 held=[] numbers={N:0} strings={B:414141,A:,C:}\nstep 7: n=0 notes=0 split=0;0 trials=1 in=7 out=0 state=running next=4 held=[] numbers={N:0} strings={B:41414141,A:,C:}\nstep 8: n=0 notes=0 split=- trials=0 in=11 out=0 state=running next=3 held=[] numbers={N:0} strings={B:41414141,A:2b2c41,C:}\nstep 9: n=0 notes=0 split=0;0 trials=1 in=11 out=0 state=running next=4 held=[] numbers={N:0} strings={B:4141414141,A:2b2c41,C:}\nstep 10: n=0 notes=0 split=- trials=0 in=52 out=0 state=running next=3 held=[] numbers={N:0} strings={B:4141414141,A:2c30413032202b412d2b2b2d2c412d42412d422d31423130412b2b3231413231322c412d32202d2b,C:}\nstep 11: n=0 notes=0 split=0;0 trials=1 in=52 out=0 state=running next=4 held=[] numbers={N:0} strings={B:414141414141,A:2c30413032202b412d2b2b2d2c412d42412d422d31423130412b2b3231413231322c412d32202d2b,C:}\nstep 12: n=0 notes=0 split=- trials=0 in=54 out=0 state=running next=3 held=[] numbers={N:0} strings={B:414141414141,A:20,C:}\nstep 13: n=0 notes=0 split=0;0 trials=1 in=54 out=0 state=running next=4 held=[] numbers={N:0} strings={B:41414141414141,A:20,C:}\nstep 14: n=0 notes=0 split=- trials=0 in=56 out=0 state=running next=3 held=[] numbers={N:0} strings={B:41414141414141,A:20,C:}\nstep 15: n=0 notes=0 split=0;0 trials=1 in=56 out=0 state=running next=4 held=[] numbers={N:0} strings={B:4141414141414141,A:20,C:}\nstep 16: n=0 notes=0 split=- trials=0 in=60 out=0 state=running next=3 held=[] numbers={N:0} strings={B:4141414141414141,A:413131,C:}\nstep 17: n=0 notes=0 split=0;0 trials=1 in=60 out=0 state=running next=4 held=[] numbers={N:0} strings={B:414141414141414141,A:413131,C:}\nstep 18: n=0 notes=0 split=- trials=0 in=60 out=0 state=running next=3 held=[] numbers={N:0} strings={B:414141414141414141,A:413131,C:}\nstep 19: n=0 notes=0 split=0;0 trials=1 in=60 out=0 state=running next=4 held=[] numbers={N:0} strings={B:41414141414141414141,A:413131,C:}\nstep 20: n=0 notes=0 split=- trials=0 in=60 out=0 state=running next=3 held=[] numbers={N:0} strings={B:41414141414141414141,A:413131,C:}\nstep 21: n=0 notes=0 split=0;0 trials=1 in=60 out=0 state=running next=4 held=[] numbers={N:0} strings={B:4141414141414141414141,A:413131,C:}\nstep 22: n=0 notes=0 split=- trials=0 in=60 out=0 state=running next=3 held=[] numbers={N:0} strings={B:4141414141414141414141,A:413131,C:}\nstep 23: n=0 notes=0 split=0;0 trials=1 in=60 out=0 state=running next=4 held=[] numbers={N:0} strings={B:414141414141414141414141,A:413131,C:}\nstep 24: n=0 notes=0 split=- trials=0 in=60 out=0 state=running next=3 held=[] numbers={N:0} strings={B:414141414141414141414141,A:413131,C:}\nstep 25: n=0 notes=0 split=0;0 trials=1 in=60 out=0 state=running next=4 held=[] numbers={N:0} strings={B:41414141414141414141414141,A:413131,C:}\nstep 26: n=0 notes=0 split=- trials=0 in=60 out=0 state=running next=3 held=[] numbers={N:0} strings={B:41414141414141414141414141,A:413131,C:}\nstep 27: n=0 notes=0 split=0;0 trials=1 in=60 out=0 state=running next=4 held=[] numbers={N:0} strings={B:4141414141414141414141414141,A:413131,C:}\nstep 28: n=0 notes=0 split=- trials=0 in=60 out=0 state=running next=3 held=[] numbers={N:0} strings={B:4141414141414141414141414141,A:413131,C:}\nstep 29: n=0 notes=0 split=0;0 trials=1 in=60 out=0 state=running next=4 held=[] numbers={N:0} strings={B:414141414141414141414141414141,A:413131,C:}\nstep 30: n=0 notes=0 split=- trials=0 in=60 out=0 state=running next=3 held=[] numbers={N:0} strings={B:414141414141414141414141414141,A:413131,C:}\nstep 31: n=0 notes=0 split=0;0 trials=1 in=60 out=0 state=running next=4 held=[] numbers={N:0} strings={B:41414141414141414141414141414141,A:413131,C:}\nstep 32: n=0 notes=0 split=- trials=0 in=60 out=0 state=running next=3 held=[] numbers={N:0} strings={B:41414141414141414141414141414141,A:413131,C:}\nstep 33: n=0 notes=0 split=0;0 trials=1 in=60 out=0 state=running next=4 held=[] numbers={N:0} strings={B:4141414141414141414141414141414141,A:413131,C:}\nstep 34: n=0 notes=0 split=- trials=0 in=60 out=0 state=running next=3 held=[] numbers={N:0} strings={B:4141414141414141414141414141414141,A:413131,C:}\nstep 35: n=0 notes=0 split=0;0 trials=1 in=60 out=0 state=running next=4 held=[] numbers={N:0} strings={B:414141414141414141414141414141414141,A:413131,C:}\nstep 36: n=0 notes=0 split=- trials=0 in=60 out=0 state=running next=3 held=[] numbers={N:0} strings={B:414141414141414141414141414141414141,A:413131,C:}\nstep 37: n=0 notes=0 split=0;0 trials=1 in=60 out=0 state=running next=4 held=[] numbers={N:0} strings={B:41414141414141414141414141414141414141,A:413131,C:}\nstep 38: n=0 notes=0 split=- trials=0 in=60 out=0 state=running next=3 held=[] numbers={N:0} strings={B:41414141414141414141414141414141414141,A:413131,C:}\nstep 39: n=0 notes=0 split=0;0 trials=1 in=60 out=0 state=running next=4 held=[] numbers={N:0} strings={B:4141414141414141414141414141414141414141,A:413131,C:}\nstep 40: n=0 notes=0 split=- trials=0 in=60 out=0 state=running next=3 held=[] numbers={N:0} strings={B:4141414141414141414141414141414141414141,A:413131,C:}\nstep 41: n=0 notes=0 split=0;0 trials=1 in=60 out=0 state=running next=4 held=[] numbers={N:0} strings={B:414141414141414141414141414141414141414141,A:413131,C:}\nstep 42: n=0 notes=0 split=- trials=0 in=60 out=0 state=running next=3 held=[] numbers={N:0} strings={B:414141414141414141414141414141414141414141,A:413131,C:}\nstep 43: n=0 notes=0 split=0;0 trials=1 in=60 out=0 state=running next=4 held=[] numbers={N:0} strings={B:41414141414141414141414141414141414141414141,A:413131,C:}\nstep 44: n=0 notes=0 split=- trials=0 in=60 out=0 state=running next=3 held=[] numbers={N:0} strings={B:41414141414141414141414141414141414141414141,A:413131,C:}\nstep 45: n=0 notes=0 split=0;0 trials=1 in=60 out=0 state=running next=4 held=[] numbers={N:0} strings={B:4141414141414141414141414141414141414141414141,A:413131,C:}\nstep 46: n=0 notes=0 split=- trials=0 in=60 out=0 state=running next=3 held=[] numbers={N:0} strings={B:4141414141414141414141414141414141414141414141,A:413131,C:}\nstep 47: n=0 notes=0 split=0;0 trials=1 in=60 out=0 state=running next=4 held=[] numbers={N:0} strings={B:414141414141414141414141414141414141414141414141,A:413131,C:}\nstep 48: n=0 notes=0 split=- trials=0 in=60 out=0 state=running next=3 held=[] numbers={N:0} strings={B:414141414141414141414141414141414141414141414141,A:413131,C:}\nstep 49: n=0 notes=0 split=0;0 trials=1 in=60 out=0 state=running next=4 held=[] numbers={N:0} strings={B:41414141414141414141414141414141414141414141414141,A:413131,C:}\nstep 50: n=0 notes=0 split=- trials=0 in=60 out=0 state=running next=3 held=[] numbers={N:0} strings={B:41414141414141414141414141414141414141414141414141,A:413131,C:}\nstep 51: n=0 notes=0 split=0;0 trials=1 in=60 out=0 state=running next=4 held=[] numbers={N:0} strings={B:4141414141414141414141414141414141414141414141414141,A:413131,C:}\nstep 52: n=0 notes=0 split=- trials=0 in=60 out=0 state=running next=3 held=[] numbers={N:0} strings={B:4141414141414141414141414141414141414141414141414141,A:413131,C:}\nstep 53: n=0 notes=0 split=0;0 trials=1 in=60 out=0 state=running next=4 held=[] numbers={N:0} strings={B:414141414141414141414141414141414141414141414141414141,A:413131,C:}\nstep 54: n=0 notes=0 split=- trials=0 in=60 out=0 state=running next=3 held=[] numbers={N:0} strings={B:414141414141414141414141414141414141414141414141414141,A:413131,C:}\nstep 55: n=0 notes=0 split=0;0 trials=1 in=60 out=0 state=running next=4 held=[] numbers={N:0} strings={B:41414141414141414141414141414141414141414141414141414141,A:413131,C:}\nstep 56: n=0 notes=0 split=- trials=0 in=60 out=0 state=running next=3 held=[] numbers={N:0} strings={B:41414141414141414141414141414141414141414141414141414141,A:413131,C:}\nstep 57: n=0 notes=0 split=0;0 trials=1 in=60 out=0 state=running next=4 held=[] numbers={N:0} strings={B:4141414141414141414141414141414141414141414141414141414141,A:413131,C:}\nstep 58: n=0 notes=0 split=- trials=0 in=60 out=0 state=running next=3 held=[] numbers={N:0} strings={B:4141414141414141414141414141414141414141414141414141414141,A:413131,C:}\nstep 59: n=0 notes=0 split=0;0 trials=1 in=60 out=0 state=running next=4 held=[] numbers={N:0} strings={B:414141414141414141414141414141414141414141414141414141414141,A:413131,C:}\nstep 60: n=0 notes=0 split=- trials=0 in=60 out=0 state=running next=3 held=[] numbers={N:0} strings={B:414141414141414141414141414141414141414141414141414141414141,A:413131,C:}\n" ≡ true
unfolding agrees
v048 = refl
