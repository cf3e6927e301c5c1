-- Cases of request 2026-05 by computation, and its promise for document 01's stored form and 2026-07's.
--     unreached, tone_found                    lines that nothing leads to; the instructions of the woven tone script
--     nothing_known, lower_of_two, kept_early   question 19
--     accident_found, kept_late                 the accident, and a guard by hand
--     finding32, finding64
-- Assumes nothing.
use mathlib.Core.Path.{◌≡◌, refl}
use mathlib.Core.List.{List, [], ◌∷◌}
use Prim.Native.Nat.{ℕ}
use Rattle.spec.specs.Questions.{passed, refused}
use Rattle.spec.specs.Rule.{form32, form64}
use Rattle.largest.specs.Notes.{start_notes}
use Rattle.largest.specs.Largest.{facts_in, count_facts, stored, ◌∩◌, annotate, narrow, narrow_to, push, sweep, count_in, settle, search, check_instructions, found_lines, question19, check_found, found_count}
use Rattle.largest.specs.Found.{Found}
use Rattle.spec.proofs.StoredLaws.{good32, good64}
use Rattle.spec.proofs.Compute.{everything}
use Rattle.spec.proofs.Cases.{since_rule}
use Rattle.largest.proofs.LargestPromise.{finding}

-- rule `false`, script halt, present, halt: lines nothing leads to have every fact that belongs, T and F at once
pub unreached : found_count form32 (0 ∷ []) (0 ∷ 0x80000000 ∷ 0 ∷ []) ≡ 4
unfolding everything facts_in count_facts start_notes stored ◌∩◌ annotate narrow narrow_to push sweep count_in settle search found_lines found_count
unreached = refl

-- the instructions of the woven tone script of document 01
abbrev tone_code : List ℕ
tone_code =
    0x41000000 ∷ 0x42000000 ∷ 0x52000408 ∷ 0x70000004 ∷ 0xa0000806 ∷ 0x7000000a ∷ 0x51000408 ∷ 0x7000000a ∷ 0x91000800 ∷ 0x7000000b
    ∷ 0x90000800 ∷ 0xb000080d ∷ 0x7000000f ∷ 0x80000000 ∷ 0xc0000800 ∷ 0x70000000 ∷ []

pub tone_found : (found_count form32 since_rule tone_code ≡ 38) × (check_found form32 since_rule tone_code ≡ passed tt)
unfolding everything facts_in count_facts start_notes stored ◌∩◌ annotate narrow narrow_to push sweep count_in settle search check_instructions found_lines question19 check_found found_count
tone_found = (refl, refl)

-- a present that nothing is known before
pub nothing_known : check_found form32 since_rule (0x41000000 ∷ 0x80000000 ∷ 0 ∷ []) ≡ refused 19 1
unfolding everything facts_in count_facts start_notes stored ◌∩◌ annotate narrow narrow_to push sweep count_in settle search check_instructions found_lines question19 check_found found_count
nothing_known = refl

-- of two presents that nothing is known before, the lower
pub lower_of_two : check_found form32 since_rule (0x41000000 ∷ 0x80000000 ∷ 0x41000000 ∷ 0x80000000 ∷ 0 ∷ []) ≡ refused 19 1
unfolding everything facts_in count_facts start_notes stored ◌∩◌ annotate narrow narrow_to push sweep count_in settle search check_instructions found_lines question19 check_found found_count
lower_of_two = refl

-- the accident of crate checker's README presents right after its test of right: with facts that do not claim its kept bit it is accepted
abbrev accident_code : List ℕ
accident_code = 0x41000000 ∷ 0x42000000 ∷ 0x52000404 ∷ 0x70000000 ∷ 0x91000800 ∷ 0xc0000800 ∷ 0x80000000 ∷ 0x70000000 ∷ []

pub accident_found : (found_count form32 since_rule accident_code ≡ 11) × (check_found form32 since_rule accident_code ≡ passed tt)
unfolding everything facts_in count_facts start_notes stored ◌∩◌ annotate narrow narrow_to push sweep count_in settle search check_instructions found_lines question19 check_found found_count
accident_found = (refl, refl)

abbrev hand_code : List ℕ
hand_code =
    0x41000000 ∷ 0xa0000804 ∷ 0x52000406 ∷ 0x70000000 ∷ 0x51000406 ∷ 0x70000000 ∷ 0x91000800 ∷ 0x80000000 ∷ 0xc0000800 ∷ 0x70000000 ∷ []

abbrev early_code : List ℕ
early_code =
    0x41000000 ∷ 0xa0000804 ∷ 0x52000406 ∷ 0x70000000 ∷ 0x51000406 ∷ 0x70000000 ∷ 0x91000800 ∷ 0xc0000800 ∷ 0x80000000 ∷ 0x70000000 ∷ []

-- a guard by hand that asks its kept bit, and the same with the bit kept before the presentation is made, which no facts can save
pub kept_late : (found_count form32 since_rule hand_code ≡ 23) × (check_found form32 since_rule hand_code ≡ passed tt)
unfolding everything facts_in count_facts start_notes stored ◌∩◌ annotate narrow narrow_to push sweep count_in settle search check_instructions found_lines question19 check_found found_count
kept_late = (refl, refl)

pub kept_early : check_found form32 since_rule early_code ≡ refused 19 8
unfolding everything facts_in count_facts start_notes stored ◌∩◌ annotate narrow narrow_to push sweep count_in settle search check_instructions found_lines question19 check_found found_count
kept_early = refl

-- document 01's stored form
pub finding32 : (rule instructions : List ℕ) → Found form32 rule instructions
finding32 = finding form32 good32

-- 2026-07's
pub finding64 : (rule instructions : List ℕ) → Found form64 rule instructions
finding64 = finding form64 good64
