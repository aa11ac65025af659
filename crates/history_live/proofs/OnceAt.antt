-- A further generator after others: its live pattern is the last, or one of those before.
use Rattle.std.specs.Prelude.{◌≡◌, ◌⊎◌, ◌↔◌, Bool, true, false, not, cond, List, [], ◌∷◌, ◌++◌, map, refl}
use Rattle.std.specs.List.{filter}
use Rattle.std.proofs.Common.{ap, sym, subst, ◌∙◌, inl, inr, append-nil}
use Rattle.std.proofs.lemmas.Bool.{false≢true}
use Rattle.std.proofs.lemmas.List.{map-append}
use Rattle.std.proofs.lemmas.List.Elements.{filter-append}
use Rattle.da_values.specs.Sets.{Has}
use Rattle.da_lang.specs.declared.query.LivePattern.{LivePattern}
use Rattle.da_lang.specs.declared.query.RGen.{RGen}
use Rattle.da_lang.specs.Live.{is_history, live_gen, same_live, once}
use Rattle.da_lang.proofs.OnceLaws.{one_from_test, same_live-itself, of_once, Has-once}
use Rattle.query_plan.specs.PlanLive.{history_lives}

abbrev other_than : LivePattern → LivePattern → Bool
other_than p q = not (same_live p q)

-- a pattern that differs from the first, or is the first
other_test : (p q : LivePattern) (b : Bool) → same_live p q ≡ b → (p ≡ q → ⊥) → other_than p q ≡ true
other_test p q true e differ = absurd (differ (one_from_test p q e))
other_test p q false e differ = ap not e

keeps_one : (p q : LivePattern) (b : Bool) → other_than p q ≡ b → b ≡ true → filter (other_than p) (q ∷ []) ≡ q ∷ []
keeps_one p q b e is = ap (λ z. cond z (q ∷ []) []) (e ∙ is)

-- one that is not there stands last
once_new : (ps : List LivePattern) (q : LivePattern) → (Has ps q → ⊥) → once (ps ++ q ∷ []) ≡ once ps ++ q ∷ []
once_new [] q new = refl
once_new (p ∷ ps) q new =
    let other : other_than p q ≡ true = other_test p q (same_live p q) refl (λ e. new (inl (sym e))) in
    ap (λ zs. p ∷ filter (other_than p) zs) (once_new ps q (λ h. new (inr h)))
    ∙ ap (λ zs. p ∷ zs) (filter-append (other_than p) (once ps) (q ∷ []) ∙ ap (λ zs. filter (other_than p) (once ps) ++ zs) (keeps_one p q (other_than p q) refl other))

-- whether one is there
there_or_new : (ps : List LivePattern) (q : LivePattern) → Has ps q ⊎ (Has ps q → ⊥)
there_or_new [] q = inr (λ h. h)
there_or_new (p ∷ ps) q = go (same_live p q) refl (there_or_new ps q)
  where
    go : (b : Bool) → same_live p q ≡ b → Has ps q ⊎ (Has ps q → ⊥) → Has (p ∷ ps) q ⊎ (Has (p ∷ ps) q → ⊥)
    go true e rest = inl (inl (sym (one_from_test p q e)))
    go false e (inl h) = inl (inr h)
    go false e (inr new) =
        inr (λ h. elim h [ inl same ↦ false≢true (sym e ∙ ap (same_live p) same ∙ same_live-itself p) | inr there ↦ new there ])

drops_one : (p q : LivePattern) → q ≡ p → filter (other_than p) (q ∷ []) ≡ []
drops_one p q same = ap (λ b. cond (not b) (q ∷ []) []) (ap (same_live p) same ∙ same_live-itself p)

first_again : (p : LivePattern) (ps : List LivePattern) (q : LivePattern) → q ≡ p → Has ps q ⊎ (Has ps q → ⊥) → (Has ps q → once (ps ++ q ∷ []) ≡ once ps) → filter (other_than p) (once (ps ++ q ∷ [])) ≡ filter (other_than p) (once ps)
first_again p ps q same (inl h) seen = ap (filter (other_than p)) (seen h)
first_again p ps q same (inr new) seen =
    ap (filter (other_than p)) (once_new ps q new)
    ∙ filter-append (other_than p) (once ps) (q ∷ [])
    ∙ ap (λ zs. filter (other_than p) (once ps) ++ zs) (drops_one p q same)
    ∙ append-nil (filter (other_than p) (once ps))

-- one that is there changes nothing
once_seen : (ps : List LivePattern) (q : LivePattern) → Has ps q → once (ps ++ q ∷ []) ≡ once ps
once_seen [] q h = absurd h
once_seen (p ∷ ps) q (inl same) = ap (λ zs. p ∷ zs) (first_again p ps q same (there_or_new ps q) (once_seen ps q))
once_seen (p ∷ ps) q (inr h) = ap (λ zs. p ∷ filter (other_than p) zs) (once_seen ps q h)

-- Generators.

more_lives : (gens : List RGen) (g : RGen) (b : Bool) → is_history g.source ≡ b → history_lives (gens ++ g ∷ []) ≡ history_lives gens ++ map live_gen (cond b (g ∷ []) [])
more_lives gens g b e =
    ap (map live_gen) (filter-append (λ z. is_history z.source) gens (g ∷ []))
    ∙ map-append live_gen (filter (λ z. is_history z.source) gens) (cond (is_history g.source) (g ∷ []) [])
    ∙ ap (λ z. history_lives gens ++ map live_gen (cond z (g ∷ []) [])) e

abbrev pub Further : List LivePattern → List LivePattern → RGen → Type 0
Further before after g = (gens : List RGen) → before ≡ once (history_lives gens) → after ≡ once (history_lives (gens ++ g ∷ []))

-- one over a set
pub no_history : (before : List LivePattern) (g : RGen) → is_history g.source ≡ false → Further before before g
no_history before g other gens is = is ∙ ap once (sym (more_lives gens g false other ∙ append-nil (history_lives gens)))

-- one whose pattern is there
is_seen : (before : List LivePattern) (g : RGen) → is_history g.source ≡ true → Has before (live_gen g) → Further before before g
is_seen before g over there gens is =
    is ∙ sym (ap once (more_lives gens g true over) ∙ once_seen (history_lives gens) (live_gen g) (of_once (history_lives gens) (live_gen g) (subst (λ z. Has z (live_gen g)) is there)))

-- one whose pattern is new
is_new : (before : List LivePattern) (g : RGen) → is_history g.source ≡ true → (Has before (live_gen g) → ⊥) → Further before (before ++ live_gen g ∷ []) g
is_new before g over new gens is =
    ap (λ z. z ++ live_gen g ∷ []) is
    ∙ sym (ap once (more_lives gens g true over) ∙ once_new (history_lives gens) (live_gen g) (λ h. new (subst (λ z. Has z (live_gen g)) (sym is) (Has-once (history_lives gens) (live_gen g) h))))

-- as code tells whether it is there
pub seen_by : (before slice : List LivePattern) (p : LivePattern) (g : RGen) (b : Bool) → slice ≡ before → p ≡ live_gen g → (b ≡ true) ↔ Has slice p → b ≡ true → is_history g.source ≡ true → Further before before g
seen_by before slice p g b same is decides found over =
    is_seen before g over (subst (Has before) is (subst (λ zs. Has zs p) same (decides.0 found)))

pub new_by : (before slice after : List LivePattern) (p : LivePattern) (g : RGen) (b : Bool) → slice ≡ before → p ≡ live_gen g → (b ≡ true) ↔ Has slice p → b ≡ false → is_history g.source ≡ true → after ≡ before ++ p ∷ [] → Further before after g
new_by before slice after p g b same is decides none over made gens e =
    made ∙ ap (λ z. before ++ z ∷ []) is
    ∙ is_new before g over (λ h. false≢true (sym none ∙ decides.1 (subst (λ zs. Has zs p) (sym same) (subst (Has before) (sym is) h)))) gens e
