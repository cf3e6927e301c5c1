-- The listing: from the bytes of the input to the bytes of the text.
use Rattle.std.specs.Prelude.{List, ℕ}
use Rattle.spec.specs.Questions.{◌then◌, passed}
use Rattle.spec.specs.Rule.{form32}
use Rattle.spec.specs.Weaver.{woven, woven_lines, check_weaving}
use Rattle.render.specs.Input.{rule_in, bare_in}
use Rattle.render.specs.Text.{answer_text}

-- the rule and the bare script are woven: questions 1 to 7 and 12, the line count, and the lines
unfoldable pub woven_text : (rule bare : List ℕ) → List ℕ
woven_text rule bare =
    answer_text (woven form32 rule bare) (check_weaving form32 rule bare then passed (woven_lines form32 rule bare))

-- what the listing program prints for an input
unfoldable pub listing_of : (bytes : List ℕ) → List ℕ
listing_of bytes = woven_text (rule_in bytes) (bare_in bytes)
