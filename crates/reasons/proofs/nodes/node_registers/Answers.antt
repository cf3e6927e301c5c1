-- `reasons::nodes::node_registers` meets its contract (`RegisterLaws`). Assumes nothing.
use Prim.Native.Nat.{◌<◌}
use mathlib.Core.Logic.{inl, inr}
use mathlib.Core.Path.{sym, ap, ap₂, subst, ◌∙◌}
use native.Mathlib.Omega.{arith}
use Rattle.sets.proofs.SetLaws.{empty_is}
use Rattle.rule.specs.Nodes.{node_read, NodeSmall}
use Rattle.intervals.specs.Reasons
use Rattle.limits.specs.Monitor.{cans_of}
use Rattle.reasons.specs.Registers.{node_registers, sets_in}
use Rattle.reasons.proofs.RegisterLaws.{one_register}
use Rattle.reasons.proofs.nodes.node_registers.Goals as goal

pub returns-in-False : goal.returns-in-False
unfolding node_registers
returns-in-False c = let a = c.args in empty_is ∙ sym (ap (λ y. node_registers (node_read y) a.k (cans_of a.values) (cans_of a.priors) (sets_in a.registers.now) (sets_in a.earlier.now)) c.in-False.is)

pub returns-in-Equal : goal.returns-in-Equal
unfolding node_registers
returns-in-Equal c = let a = c.args in
    let small : c.in-Equal.register < 16 = elim c.in-Equal.is [ inl h ↦ (subst NodeSmall (ap node_read h.1) c.requires.0).0 | inr h ↦ (subst NodeSmall (ap node_read h.1) c.requires.0).0 ] in
    c.with.ensures ∙ one_register c.in-Equal.register (omega arith)
    ∙ elim c.in-Equal.is [
      | inl h ↦ sym (ap (λ y. node_registers (node_read y) a.k (cans_of a.values) (cans_of a.priors) (sets_in a.registers.now) (sets_in a.earlier.now)) h.1)
      | inr h ↦ sym (ap (λ y. node_registers (node_read y) a.k (cans_of a.values) (cans_of a.priors) (sets_in a.registers.now) (sets_in a.earlier.now)) h.1)
    ]

pub returns-in-Implies : goal.returns-in-Implies
unfolding node_registers
returns-in-Implies c = let a = c.args in ap (λ y. y.registers) (c.either.ensures ∙ ap₂ Reasons.either (c.opposite.ensures ∙ ap Reasons.opposite c.reason_at-l.ensures) c.reason_at-r.ensures) ∙ sym (ap (λ y. node_registers (node_read y) a.k (cans_of a.values) (cans_of a.priors) (sets_in a.registers.now) (sets_in a.earlier.now)) c.in-Implies.is)

pub returns-in-Since : goal.returns-in-Since
unfolding node_registers
returns-in-Since c = let a = c.args in ap (λ y. y.registers) (c.either-in-Since.ensures ∙ ap₂ Reasons.either c.reason_at-r-in-Since.ensures (c.both.ensures ∙ ap₂ Reasons.both c.reason_at-l-in-Since.ensures c.reason_at-p.ensures)) ∙ sym (ap (λ y. node_registers (node_read y) a.k (cans_of a.values) (cans_of a.priors) (sets_in a.registers.now) (sets_in a.earlier.now)) c.in-Since.is)

pub returns-in-WeakPrevious : goal.returns-in-WeakPrevious
unfolding node_registers
returns-in-WeakPrevious c = let a = c.args in sym (ap (λ y. node_registers (node_read y) a.k (cans_of a.values) (cans_of a.priors) (sets_in a.registers.now) (sets_in a.earlier.now)) c.in-WeakPrevious.is)

pub returns-in-EqualRegisters : goal.returns-in-EqualRegisters
unfolding node_registers
returns-in-EqualRegisters c = let a = c.args in c.compared.ensures ∙ sym (ap (λ y. node_registers (node_read y) a.k (cans_of a.values) (cans_of a.priors) (sets_in a.registers.now) (sets_in a.earlier.now)) c.in-EqualRegisters.is)
