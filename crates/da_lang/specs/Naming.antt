-- Whether a slot stands in a term, a pattern, or the patterns of a generator.
use Rattle.std.specs.Prelude.{ℕ, ◌||◌, Bool, false, nat_eq}
use Rattle.std.specs.List.{list_any}
use Rattle.da_lang.specs.declared.query.Pattern.{Pattern}
use Rattle.da_lang.specs.declared.query.Pattern.TheOpen as pattern
use Rattle.da_lang.specs.declared.query.Pattern.TheOpen.{Pattern-F}
use Rattle.da_lang.specs.declared.query.Pattern.TheFolds.{fold-Pattern}
use Rattle.da_lang.specs.declared.query.RGen.{RGen}
use Rattle.da_lang.specs.declared.query.Term.{Term}
use Rattle.da_lang.specs.declared.query.Term.TheOpen as term
use Rattle.da_lang.specs.declared.query.Term.TheOpen.{Term-F}
use Rattle.da_lang.specs.declared.query.Term.TheFolds.{fold-Term}

-- one layer of a term
abbrev pub names_step : ℕ → Term-F Bool → Bool
names_step s (term.Slot k) = nat_eq k s
names_step s (term.Tuple parts) = list_any (λ part. part) parts
names_step s _ = false

-- in a term
abbrev pub names : ℕ → Term → Bool
names s = fold-Term Bool (names_step s)

-- one layer of a pattern
abbrev pub pattern_names_step : ℕ → Pattern-F Bool → Bool
pattern_names_step s (pattern.Equal t) = names s t
pattern_names_step s (pattern.Tuple parts) = list_any (λ part. part) parts
pattern_names_step s _ = false

-- in a pattern
abbrev pub pattern_names : ℕ → Pattern → Bool
pattern_names s = fold-Pattern Bool (pattern_names_step s)

-- in the patterns of a generator; its source may be the slot all the same
abbrev pub gen_names : ℕ → RGen → Bool
gen_names s g = pattern_names s g.message || pattern_names s g.peer
