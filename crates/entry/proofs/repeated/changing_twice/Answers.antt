-- Each call is one step of `changing`, and the page says what the steps leave.
use mathlib.Core.List.{List, [], ◌∷◌}
use mathlib.Core.Path.{◌≡◌, ap, ◌∙◌}
use Prim.Native.Nat.{ℕ}
use Rattle.std.specs.Prelude.{Result, Ok}
use Rattle.answers.specs.declared.Refusal.{Refusal}
use Rattle.answers.specs.Outcome.{Outcome, leaving}
use Rattle.frame.specs.declared.Format.{Format}
use Rattle.frame.specs.declared.Frame.{Frame}
use Rattle.frame.specs.Changes.{Edit, changing_of, changing}
use Rattle.demands.proofs.Demands.{changes_of_a_frame}
use Rattle.entry.proofs.repeated.changing_twice.Goals as goal

-- what two changes leave, as a list of changes
changed-twice :
    (f : Format) (s : List ℕ) {l m : List ℕ} {p q : Result Frame Refusal} (d e : Edit)
    → leaving p l ≡ changing_of f s d.place d.byte
    → leaving q m ≡ changing_of f l e.place e.byte
    → m ≡ changing f (d ∷ e ∷ []) s
unfolding changing
changed-twice f s d e one two =
    ap (λ (o : Outcome (Result Frame Refusal)). o.memory) two
    ∙ ap (λ (o : Outcome (Result Frame Refusal)). (changing_of f o.memory e.place e.byte).memory) one

pub returns : goal.returns
returns c =
    let a = c.args in
    let first : Edit = record { place = a.first; byte = a.a } in
    let second : Edit = record { place = a.second; byte = a.b } in
    let memory = changed-twice a.f a.s.now first second c.change.ensures c.change-2.ensures in
    λ d z n e.
    ap (leaving (Ok z)) memory
    ∙ changes_of_a_frame.sequence_is_writing a.f a.s.now d z n e (first ∷ second ∷ [])
