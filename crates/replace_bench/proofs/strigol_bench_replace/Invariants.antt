-- `replace_bench::strigol_bench_replace` replaces so many times. The loop's invariant: so many are replaced.
use Rattle.std.specs.Prelude.{◌≡◌}
use Rattle.replace_bench.specs.Replacements.{replaced_times}
use Rattle.replace_bench.proofs.strigol_bench_replace.Given as goal

abbrev pub invariant-loop-i : goal.invariant-loop-i
invariant-loop-i l = l.store ≡ replaced_times l.initial.store l.from l.n l.v l.i
