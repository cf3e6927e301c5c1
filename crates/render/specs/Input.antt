-- The listing's input: 32-bit words, high byte first, of which a word cut short is a missing word: node count, nodes, line count,
-- bare lines. Later bytes are ignored.
use Rattle.std.specs.Prelude.{List, ℕ, ◌+◌, length}
use Rattle.spec.specs.Rule.{form32}
use Rattle.spec.specs.Script.{most_lines}
use Rattle.words.specs.Counted.{counted}

-- node count (1 to 32), nodes
abbrev pub rule_in : List ℕ → List ℕ
rule_in bytes = counted form32.width bytes 0

-- then line count (1 to 1,024), bare lines
abbrev pub bare_in : List ℕ → List ℕ
bare_in bytes = counted most_lines bytes (length (rule_in bytes) + 1)
