-- The words of a script of one form in another: each has or gets its upper half.
use Rattle.std.specs.Prelude.{Bool, List, map, ℕ}
use Rattle.rule.specs.Nodes.{words_in, word_by}

abbrev pub words_moved : (from to : Bool) → (script : List ℕ) → List ℕ
words_moved from to script = map (word_by to) (words_in from script)
