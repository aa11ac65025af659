-- Where the rows of a generator can change: at rows of the parent that came or that left, and at elements that came or left
-- and rows of the parent that are there before and after. Of a row that came the live rows that agree with it give all new
-- rows, and of an element the rows that agree with it at each part that stands alone.
use Rattle.std.specs.Prelude.{◌≡◌, ◌⊎◌, ℕ, Bool, true, if◌then◌else◌, List, [], ◌∷◌, ◌++◌, map, length, Option, Some, None, refl}
use Rattle.std.specs.List.{flat_map}
use Rattle.std.proofs.Common.{ap, sym, subst, ◌∙◌, inl, inr, arith}
use Rattle.std.proofs.lemmas.Bool.{and_parts, and_from}
use Rattle.std.proofs.lemmas.List.{map-append}
use Rattle.da_values.specs.declared.val.Val.{Val}
use Rattle.da_values.specs.Order.{row_cmp}
use Rattle.da_values.specs.Sets.{Has}
use Rattle.da_values.specs.Views.{elements_of}
use Rattle.da_values.proofs.Members.{Has-append_left, of_append, Has-map, of_map, Has-flat_map, of_flat_map, Has-filter, Has-filter_map, of_filter_map}
use Rattle.da_values.proofs.OrderLaws.{row_order, same_from_row_cmp}
use Rattle.da_values.proofs.SetLaws.{has_or_not, Has-difference}
use Rattle.da_lang.specs.declared.query.RGen.{RGen}
use Rattle.da_lang.specs.declared.query.Source.{Source}
use Rattle.da_lang.specs.declared.query.Source.TheVariants as source
use Rattle.da_lang.specs.declared.query.Term.{Term}
use Rattle.da_lang.specs.Caught.{caught, Origins, origins, gen_origins, agree}
use Rattle.da_lang.specs.Live.{is_history, live_gen, live_rows}
use Rattle.da_lang.specs.Matching.{Row, Candidate, Element, Message, is_same, matched_candidate}
use Rattle.da_lang.specs.Naming.{gen_names}
use Rattle.da_lang.specs.Queries.{candidates, step_rows}
use Rattle.da_lang.specs.World.{Data, slot_of}
use Rattle.da_lang.proofs.CaughtLaws.{match_is_taken, taken, taken_from_match, step_is_live}
use Rattle.query_plan.specs.Agreeing.{is_alone, Asked, asked_part, asked, meets, agrees_alone, agreeing, live_row, meeting}
use Rattle.query_plan.specs.Updates.{Update, after, gained, lost, swapped, moved}
use Rattle.query_plan.proofs.AgreeingLaws.{agree_asked, alone_given, gives_among, gives_met}
use Rattle.query_plan.proofs.TouchedLaws.{Spares, match_kept}
use Rattle.query_plan.proofs.UpdateLaws.{history_grows, swapped_covers}

-- What is a candidate in one world is one in the other, or moves.

module _ (u : Update) (d : Data) where
  abbrev Cover : Source → Candidate → Type 0
  Cover s c = (Has (candidates (after u d) s) c → Has (candidates d s) c ⊎ Has (moved u d s) c) × (Has (candidates d s) c → Has (candidates (after u d) s) c ⊎ Has (moved u d s) c)

  history_covers : (s : Source) → is_history s ≡ true → (c : Candidate) → Cover s c
  history_covers s over c = (
    λ h. of_append (candidates d s) (moved u d s) c (subst (λ z. Has z c) (history_grows u d s over) h),
    λ h. inl (subst (λ z. Has z c) (sym (history_grows u d s over)) (Has-append_left (candidates d s) (moved u d s) c h)),
  )

  either_as : (xs ys : List Val) (c : Candidate) (x : Val) → c ≡ Element x → Has xs x ⊎ Has ys x → Has (map Element xs) c ⊎ Has (map Element ys) c
  either_as xs ys c x is (inl h) = inl (subst (Has (map Element xs)) (sym is) (Has-map Element xs x h))
  either_as xs ys c x is (inr h) = inr (subst (Has (map Element ys)) (sym is) (Has-map Element ys x h))

  slot_covers : (k : ℕ) (c : Candidate) → Cover (source.Slot k) c
  slot_covers k c =
      let old = elements_of (slot_of d k) in
      let new = elements_of (slot_of (after u d) k) in (
        (λ h. let (x, there, is) = of_map Element new c h in either_as old (swapped old new) c x is ((swapped_covers old new x).1 there)),
        (λ h. let (x, there, is) = of_map Element old c h in either_as new (swapped old new) c x is ((swapped_covers old new x).0 there)),
      )

  pub candidates_cover : (s : Source) (c : Candidate) → Cover s c
  candidates_cover source.Received c = history_covers source.Received refl c
  candidates_cover source.Sent c = history_covers source.Sent refl c
  candidates_cover (source.Slot k) c = slot_covers k c

-- The rows of a generator over rows of its parent, before and after an update that changes no slot which its patterns name.
module _ (u : Update) (d : Data) (g : RGen) (free : Spares u (λ s. gen_names s g)) where
  -- an element that comes or leaves, and that gives a row
  abbrev pub Moves : Row → Row → Type 0
  Moves s r = (c : Candidate) × Has (moved u d g.source) c × (matched_candidate (after u d) g.message g.peer c s ≡ Some r)

  now_or_before : (s r : Row) → Has (step_rows (after u d) g s) r → Has (step_rows d g s) r ⊎ Moves s r
  now_or_before s r h =
      let (c, there, e) = of_filter_map (λ c. matched_candidate (after u d) g.message g.peer c s) (candidates (after u d) g.source) r h in
      elim ((candidates_cover u d g.source c).0 there) [
        | inl old ↦ inl (Has-filter_map (λ c. matched_candidate d g.message g.peer c s) (candidates d g.source) c r old (sym (match_kept u d g free c s) ∙ e))
        | inr came ↦ inr (c, came, e)
      ]

  before_or_now : (s r : Row) → Has (step_rows d g s) r → Has (step_rows (after u d) g s) r ⊎ Moves s r
  before_or_now s r h =
      let (c, there, e) = of_filter_map (λ c. matched_candidate d g.message g.peer c s) (candidates d g.source) r h in
      elim ((candidates_cover u d g.source c).1 there) [
        | inl new ↦ inl (Has-filter_map (λ c. matched_candidate (after u d) g.message g.peer c s) (candidates (after u d) g.source) c r new (match_kept u d g free c s ∙ e))
        | inr left ↦ inr (c, left, match_kept u d g free c s ∙ e)
      ]

  module _ (old new : List Row) where
    -- a row of the parent that is there before and after, with an element that moves
    abbrev pub FromMoved : Row → Type 0
    FromMoved r = (s : Row) × Has old s × Has new s × Moves s r

    abbrev pub FromGained : Row → Type 0
    FromGained r = (s : Row) × Has (gained old new) s × Has (step_rows (after u d) g s) r

    abbrev pub FromLost : Row → Type 0
    FromLost r = (s : Row) × Has (lost old new) s × Has (step_rows d g s) r

    -- A row that comes
    pub coming_row : (r : Row) → Has (flat_map (step_rows (after u d) g) new) r → Has (flat_map (step_rows d g) old) r ⊎ (FromGained r ⊎ FromMoved r)
    coming_row r h =
        let (s, there, found) = of_flat_map (step_rows (after u d) g) new r h in
        go s there found (has_or_not row_cmp row_order same_from_row_cmp old s) (now_or_before s r found)
      where
        go : (s : Row) → Has new s → Has (step_rows (after u d) g s) r → Has old s ⊎ (Has old s → ⊥) → Has (step_rows d g s) r ⊎ Moves s r → Has (flat_map (step_rows d g) old) r ⊎ (FromGained r ⊎ FromMoved r)
        go s there found (inr fresh) either = inr (inl (s, Has-difference row_cmp row_order same_from_row_cmp new old s there fresh, found))
        go s there found (inl before) (inl known) = inl (Has-flat_map (step_rows d g) old s r before known)
        go s there found (inl before) (inr moves) = inr (inr (s, before, there, moves))

    -- and one that leaves.
    pub leaving_row : (r : Row) → Has (flat_map (step_rows d g) old) r → Has (flat_map (step_rows (after u d) g) new) r ⊎ (FromLost r ⊎ FromMoved r)
    leaving_row r h =
        let (s, there, found) = of_flat_map (step_rows d g) old r h in
        go s there found (has_or_not row_cmp row_order same_from_row_cmp new s) (before_or_now s r found)
      where
        go : (s : Row) → Has old s → Has (step_rows d g s) r → Has new s ⊎ (Has new s → ⊥) → Has (step_rows (after u d) g s) r ⊎ Moves s r → Has (flat_map (step_rows (after u d) g) new) r ⊎ (FromLost r ⊎ FromMoved r)
        go s there found (inr gone) either = inr (inl (s, Has-difference row_cmp row_order same_from_row_cmp old new s there gone, found))
        go s there found (inl now) (inl known) = inl (Has-flat_map (step_rows (after u d) g) new s r now known)
        go s there found (inl now) (inr moves) = inr (inr (s, there, now, moves))

-- What is read for a row that came, and for an element.

module _ (d : Data) (g : RGen) where
  -- Over a history each row of the generator from a row comes from a live row that agrees with it.
  pub from_agreeing : is_history g.source ≡ true → (row r : Row) → Has (step_rows d g row) r → (live : Row) × Has (agreeing d g row) live × (agree d.me d.slots (gen_origins g) live row ≡ Some r)
  from_agreeing over row r h =
      let (live, there, gives) = step_is_live d g row over r h in
      (live, gives_among d g row live r gives (subst (λ z. Has z live) (sym (ap (λ b. if b then live_rows (live_gen g) d else []) over)) there), gives)

  -- a live row that has fewer parts than are asked for
  meets_front : (front more : Asked) (live : Row) → length live ≡ length front → meets front live ≡ true → meets (front ++ more) live ≡ true
  meets_front [] [] [] long e = refl
  meets_front [] (a ∷ more) [] long e = refl
  meets_front [] more (x ∷ live) long e = absurd (omega (arith, long))
  meets_front (a ∷ front) more [] long e = absurd (omega (arith, long))
  meets_front (None ∷ front) more (x ∷ live) long e = meets_front front more live (omega (arith, long)) e
  meets_front (Some y ∷ front) more (x ∷ live) long e =
      let (first, others) = and_parts (is_same x y) (meets front live) e in
      and_from (is_same x y) (meets (front ++ more) live) first (meets_front front more live (omega (arith, long)) others)

  asked_long : (counts : Term → Bool) (row : Row) (os : Origins) → length (asked counts d row os) ≡ length os
  asked_long counts row [] = refl
  asked_long counts row (o ∷ os) = omega (arith, asked_long counts row os)

  element_met : (x : Val) (row r : Row) (found : Option Row) → caught d.me g.message x ≡ found → taken d.me d.slots (origins g.message) row found ≡ Some r → (rows : List Row) → Has rows row → Has (meeting d g rows found) row
  element_met x row r None is gives rows there = absurd (cc)
  element_met x row r (Some live) is gives rows there =
      let long = (match_is_taken d.me d.slots g.message x).1 live is in
      Has-filter (λ z. agrees_alone d g z live) rows row there
      (subst (λ z. meets z live ≡ true) (sym (map-append (asked_part (is_alone (length row)) d row) (origins g.message) (origins g.peer)))
      (meets_front (asked (is_alone (length row)) d row (origins g.message)) (asked (is_alone (length row)) d row (origins g.peer)) live
      (long ∙ sym (asked_long (is_alone (length row)) row (origins g.message)))
      (agree_asked (is_alone (length row)) d row (alone_given (length row)) (origins g.message) live r gives)))

  -- A row from which an element gives a row is among those that agree with the element.
  pub element_meets : (c : Candidate) (row r : Row) → matched_candidate d g.message g.peer c row ≡ Some r → (rows : List Row) → Has rows row → Has (meeting d g rows (live_row d.me g c)) row
  element_meets (Element x) row r e rows there =
      element_met x row r (caught d.me g.message x) refl (sym ((match_is_taken d.me d.slots g.message x).0 row) ∙ e) rows there
  element_meets (Message m p) row r e rows there =
      let (live, is, gives) = taken_from_match d g m p row r e in
      subst (λ z. Has (meeting d g rows z) row) (sym is) (gives_met d g row live r gives rows there)
