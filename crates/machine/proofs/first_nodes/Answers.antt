-- `machine::first_nodes` meets its contract: past the last node there is none to take (`EachLaws` of crate rule). Assumes nothing.
use mathlib.Core.Path.{◌≡◌, sym, ap, ◌∙◌}
use mathlib.Core.List.{List}
use Prim.Native.Nat.{ℕ, min}
use native.Mathlib.Omega.{arith}
use lib.ListN.{length, take}
use lib.Seq.{take_all}
use Rattle.spec.proofs.BoolLaws.{le_or_lt}
use mathlib.Core.Logic.{inl, inr}
use Rattle.rule.proofs.EachLaws.{length_each, take_each}
use Rattle.machine.proofs.first_nodes.Goals as goal

-- as many as there are, or `most`
cut : (ns : List ℕ) (n m most : ℕ) → n ≡ length ns → m ≡ min n most → take m ns ≡ take most ns
cut ns n m most e d = elim (le_or_lt n most) [
  | inl few ↦ ap (λ k. take k ns) (let h : m ≡ n = omega arith in h) ∙ take_all n ns (omega arith) ∙ sym (take_all most ns (omega arith))
  | inr many ↦ ap (λ k. take k ns) (let h : m ≡ most = omega arith in h)
]

pub returns : goal.returns
returns g c =
    take_each g.met.W.Word.each c.args.rule.now _
    ∙ cut (g.W.Word.numbers c.args.rule.now) _ c.min.result _ (sym (length_each g.met.W.Word.each c.args.rule.now)) c.min.ensures
    ∙ ap (λ n. take n (g.W.Word.numbers c.args.rule.now)) c.most_nodes.ensures
