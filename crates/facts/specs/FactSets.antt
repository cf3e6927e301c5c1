-- This crate's facts as the specification's.
use Rattle.std.specs.Prelude.{true, false, ℕ}
use Rattle.spec.specs.Facts as spec
use Rattle.spec.specs.Facts.{Fact, value_is, prior_is, kept_is_prior, work_is_next, work_is_prior}
use Rattle.sets.specs.Sets.{set_of}
use Rattle.facts.specs.declared.Facts.{Facts}

-- the word that holds the nodes with a fact
abbrev pub word_of : Facts → Fact → ℕ
word_of x (value_is true) = x.t
word_of x (value_is false) = x.f
word_of x (prior_is true) = x.a
word_of x (prior_is false) = x.b
word_of x kept_is_prior = x.m
word_of x work_is_next = x.w
word_of x work_is_prior = x.c

abbrev pub facts_of : Facts → spec.Facts
facts_of x f = set_of (word_of x f)
