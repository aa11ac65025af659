-- The part of a variable, by what its number is.
use Rattle.std.specs.Prelude.{◌≡◌, ◌<◌, ◌≤◌, ◌-◌, ℕ, zero, suc, List, length, get_or, refl}
use Rattle.std.proofs.Common.{ap, sym, ◌∙◌, arith}
use Rattle.std.proofs.lemmas.Option.{slice_get-get_or, slice_get_past}
use Rattle.da_lang.specs.declared.query.Term.TheVariants as term
use Rattle.query_plan.specs.Plans.{part_of, known}

pub known_zero : (vars : List ℕ) (k : ℕ) → k ≡ 0 → term.Foreign ≡ known vars k
known_zero vars zero e = refl
known_zero vars (suc k) e = absurd (omega (arith, e))

pub known_past : (vars : List ℕ) (k : ℕ) → length vars < k → term.Foreign ≡ known vars k
known_past vars zero past = absurd (omega (arith, past))
known_past vars (suc k) past = ap part_of (sym (slice_get_past vars k (omega (arith, past))))

pub known_there : (vars : List ℕ) (k part : ℕ) → 0 < k → k ≤ length vars → part ≡ get_or vars (k - 1) 0 → term.Part part ≡ known vars k
known_there vars zero part some within e = absurd (omega (arith, some))
known_there vars (suc k) part some within e =
    let one : suc k - 1 ≡ k = omega arith in
    ap term.Part (e ∙ ap (λ j. get_or vars j 0) one) ∙ ap part_of (sym (slice_get-get_or vars k 0 (omega (arith, within))))

pub ruleset known_rules = (known_zero, known_past, known_there)
