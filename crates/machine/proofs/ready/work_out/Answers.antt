-- `machine::ready::work_out` meets its contract: a monitor over one state (`WatchLaws.watch_one` of crate rule). Assumes nothing.
use mathlib.Core.Path.{◌≡◌, refl, ap, ◌∙◌}
use mathlib.Core.Bool.{Bool, true, false, cond}
use mathlib.Core.Option as maybe
use mathlib.Core.Option.{none, some}
use Prim.Native.Nat.{ℕ}
use lib.ListN.{length}
use Rattle.std.specs.Prelude.{Option, Some, None, is_none}
use Rattle.sets.specs.Sets.{set_of}
use Rattle.rule.specs.Answers.{found_of}
use Rattle.rule.specs.Nodes.{table_in}
use Rattle.rule.proofs.WatchLaws.{watch_one}
use borrow.Author.Rules.{rules}
use Rattle.machine.proofs.ready.work_out.Goals as goal

-- the rule is false at no state
abbrev none_found : maybe.Option ℕ → Bool
none_found none = true
none_found (some i) = false

none_told : (o : Option ℕ) → is_none o ≡ none_found (found_of o)
none_told None = refl
none_told (Some i) = refl

none_is : (b : Bool) → none_found (cond b none (some 0)) ≡ b
none_is true = refl
none_is false = refl

pub returns : goal.returns
returns c =
    let a = c.args in
    let sixteen : length a.registers ≡ 16 = search rules in
    let told = c.watch-w.ensures ∙ watch_one (table_in a.rule.now) a.registers (set_of a.priors) sixteen in
    let ready = (let e : c.is_none.result ≡ is_none c.watch-w.result.found = search rules in e) ∙ none_told _ ∙ ap (λ w. none_found w.found) told ∙ none_is _ in
    λ i. record { ready = ready i; priors = set_of a.priors; next = (told i).priors; tested = set_of a.tested }
