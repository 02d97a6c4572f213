-- Document 01, "Trade lines tried": the deck LOTS as the program prints it, and the edges. Assumes nothing.
use Rattle.std.specs.Prelude.{List, ◌≡◌, refl, ℕ}
use Prim.Native.String.{String}
use Rattle.base.specs.Current.{current}
use Rattle.base.specs.Text.{bytes}
use Rattle.calls.specs.Strigol.{printed}
use Rattle.computing.specs.{everything}

-- what the program prints for a deck and an input
unfoldable pub prints : (deck input : String) → List ℕ
prints deck input = printed current (bytes deck) (bytes input)

-- L16 "On lines `W7,120`, `NOTE`, `B2,35` it prints `W7 0120`, `B2 0155`, `FINISHED,0,14,0`."
pub lots :
    prints
    "         PROGRAM LOTS\n         NUMBER N\nNEXT     READ LINE /,DONE\n         SCAN LINE [(LOT),\",\",(TONS)] /,NEXT\n         N=N+NUMBER(TONS)\n         PRINT LOT,\" \",STRING(4,N)\n         GO TO NEXT\nDONE     END\n"
    "W7,120\nNOTE\nB2,35\n"
    ≡ bytes "W7 0120\nB2 0155\nFINISHED,0,14,0\n"
unfolding prints everything
lots = refl

-- L13 "20 elements pass"
pub twenty_pass :
    prints "         PROGRAM E\n         PRINT A,A,A,A,A,A,A,A,A,A,A,A,A,A,A,A,A,A,A,\"X\"\n         END\n" "" ≡ bytes "X\nFINISHED,0,2,0\n"
unfolding prints everything
twenty_pass = refl

-- L13 "21 get 10"
pub twenty_one_refused :
    prints "         PROGRAM E\n         PRINT A,A,A,A,A,A,A,A,A,A,A,A,A,A,A,A,A,A,A,A,\"X\"\n         END\n" "" ≡ bytes "REFUSED,10,2,0\n"
unfolding prints everything
twenty_one_refused = refl

-- L13 "8,388,607+1 gets 19"
pub past_the_range :
    prints "         PROGRAM E\n         NUMBER N\n         N=8388607\n         N=8388607+1\n         END\n" "" ≡ bytes "STOPPED,19,2,0\n"
unfolding prints everything
past_the_range = refl
