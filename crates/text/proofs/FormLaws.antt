-- A text in both stored forms: its words in one are its words in the other, moved (crate moves, `specs/Moves.antt`).
--     rule_words_narrow, rule_words_widen      the words of a formula
--     texting_narrow, texting_widen            what is written for a text
--     texting_narrowable                       where it has at most 32 nodes, the old form has space for their fields
-- By crate grammar's laws for any two forms, `TableLaws.words_moved` and `FormLaws.texting_moved`. Assumes nothing.
use mathlib.Core.Path.{◌≡◌}
use mathlib.Core.List.{List}
use Prim.Native.Nat.{ℕ, ◌≤◌, ◌<◌}
use native.Mathlib.Omega.{arith}
use lib.ListN.{length, get_or}
use Rattle.spec.specs.Logic.{Formula}
use Rattle.spec.specs.Questions.{passed}
use Rattle.spec.specs.Rule.{form32, form64}
use Rattle.spec.proofs.StoredLaws.{good32, good64}
use Rattle.moves.specs.Moves.{Narrow, widen_node, narrow_node, widen_rule, narrow_rule}
use Rattle.moves.proofs.NodeMoveLaws.{narrowable}
use Rattle.grammar.specs.Nodes.{size, rule_words}
use Rattle.grammar.specs.Texting.{texting}
use Rattle.grammar.proofs.TableLaws.{SmallTests, words_moved}
use Rattle.grammar.proofs.TextLaws.{text_promise64}
use Rattle.grammar.proofs.FormLaws.{texting_few, texting_moved}

pub rule_words_narrow : (φ : Formula) → SmallTests φ → size φ ≤ 64 → narrow_rule (rule_words form64 φ) ≡ rule_words form32 φ
unfolding narrow_node form64
rule_words_narrow φ small few = words_moved form64 good64 φ small few form32

pub rule_words_widen : (φ : Formula) → SmallTests φ → size φ ≤ 32 → widen_rule (rule_words form32 φ) ≡ rule_words form64 φ
unfolding widen_node form32
rule_words_widen φ small few = words_moved form32 good32 φ small few form64

module _ (lent : ℕ) (text ws : List ℕ) where
  pub texting_narrow : texting form64 lent text ≡ passed ws → length ws ≤ 32 → texting form32 lent text ≡ passed (narrow_rule ws)
  unfolding narrow_node form32
  texting_narrow e few = texting_moved form64 lent text ws e form32 good64 few

  pub texting_widen : texting form32 lent text ≡ passed ws → texting form64 lent text ≡ passed (widen_rule ws)
  unfolding widen_node form32 form64
  texting_widen e = let few = (texting_few form32 lent text ws e).0 in texting_moved form32 lent text ws e form64 good32 (omega arith)

  pub texting_narrowable : texting form64 lent text ≡ passed ws → length ws ≤ 32
      → (k : ℕ) → k < length ws → Narrow (form64.read_node (get_or ws k 0))
  texting_narrowable e few = let (φ, spelled, table, room) = text_promise64.table text lent ws e in narrowable ws table.accepted few
