-- `rule::node::fields_fit` meets its contract: the code writes the definition out. Assumes nothing.
use mathlib.Core.Path.{◌≡◌, sym, ap, ◌∙◌}
use mathlib.Core.Bool.{not, ◌&&◌, ◌||◌}
use Prim.Native.Nat.{ℕ}
use lib.Dec.{eqb, leb, ltb}
use denote.Enum.Declared.{tag_of}
use Rattle.spec.specs.Rule.{fields_fit, unused_zero}
use Rattle.rule.specs.contracts.node.Kind.{the_type}
use Rattle.rule.specs.Nodes.{fields_by}
use Rattle.rule.proofs.EitherLaws.{kind_by, register_by, constant_by}
use Rattle.rule.proofs.NodeLaws.{tag_kind, known_kind, allowed_kind}
use Rattle.rule.proofs.node.fields_fit.Goals as goal

pub returns : goal.returns
unfolding fields_fit unused_zero
returns c =
    let w = c.args.word in
    let b = c.args.is_wide in
    let f = fields_by b w in
    let kind = c.kind_of-kind.ensures ∙ kind_by w b in
    let k = c.kind_of-kind.result in
    let is : (n : ℕ) → eqb (tag_of the_type k) n ≡ eqb f.kind n = λ n. ap (λ k. eqb k n) (tag_kind k ∙ kind) in
    let known = c.ne.ensures ∙ known_kind k ∙ ap (λ k. leb k 6) kind in
    let constant = c.constant_of.ensures ∙ constant_by w b in
    (λ i. known i
    && (((c.eq.ensures ∙ is 1) i || (c.eq-2.ensures ∙ is 2) i || (c.eq-3.ensures ∙ is 6) i
    || eqb ((c.register_of.ensures ∙ register_by w b) i) 0 && eqb (constant i) 0)
    && ((c.eq-4.ensures ∙ is 3) i || (c.eq-5.ensures ∙ is 4) i || (c.eq-6.ensures ∙ is 5) i || eqb (c.left_of.ensures i) 0)
    && ((c.eq-7.ensures ∙ is 3) i || (c.eq-8.ensures ∙ is 4) i || eqb (c.right_of.ensures i) 0) && eqb (c.spare_of.ensures i) 0)
    && ((c.ne-2.ensures ∙ ap not (is 6)) i || ltb ((c.constant_of-2.ensures ∙ constant_by w b) i) 16))
    ∙ ap (λ b. leb f.kind 6 && unused_zero f && b) (sym (allowed_kind f))
