-- `state::strigol_start` meets its contract, whether the store was large enough or not.
use Rattle.std.proofs.Common.{◌≡◌, sym, ap, ◌∙◌, List, ℕ, Option}
use Rattle.calls.specs.Promises.{StartPromise, start_back}
use Rattle.encoding.specs.Buffers.{first_state}
use Rattle.store.specs.Clauses.{Started, started_number}
use Rattle.state.specs.KeepLaws.{start_state}
use Rattle.state.proofs.strigol_start.Goals as goal

promised : {store left state : List ℕ} {number : ℕ} (r : Option Unit) → Started store (started_number r) left → state ≡ first_state
    → started_number r ≡ number → StartPromise store (start_back number left state)
promised {store} r s e n =
    let here = e ∙ sym (start_state store) in
    record { does = λ i. start_back ((sym n ∙ s.number_right_lem) i) (s.left_right i) (here i) }

pub returns-in-Some : goal.returns-in-Some
returns-in-Some c = promised c.start_store.result c.start_store.ensures c.start.ensures (ap started_number c.in-Some.is)

pub returns-in-None : goal.returns-in-None
returns-in-None c = promised c.start_store.result c.start_store.ensures c.start.ensures (ap started_number c.in-None.is)
