-- A term, a pattern and the patterns of a generator that do not name a slot mean the same whatever is in it. What each
-- change of a process does to the candidates of a source.
use Rattle.std.specs.Prelude.{◌≡◌, ℕ, ◌<◌, ◌≤◌, Bool, false, nat_eq, List, [], ◌∷◌, ◌++◌, map, length, refl}
use Rattle.std.specs.Cmp.{unsigned_Decides}
use Rattle.std.specs.List.{AllByRecursion, list_any}
use Rattle.std.proofs.Common.{ap, sym, ◌∙◌}
use Rattle.std.proofs.lemmas.Bool.{false≢true, or_parts}
use Rattle.std.proofs.lemmas.List.{map-append}
use Rattle.da_values.specs.declared.val.Val.{Val, out-Val}
use Rattle.da_values.specs.declared.val.Val.TheVariants as val
use Rattle.da_values.specs.declared.val.Val.TheOpen as layer
use Rattle.da_values.specs.declared.val.Val.TheOpen.{Val-F}
use Rattle.da_values.specs.Order.{val_cmp}
use Rattle.da_values.specs.Sets.{set_insert, set_remove}
use Rattle.da_values.specs.Views.{elements_of}
use Rattle.da_values.proofs.ViewLaws.{elements_of-Set}
use Rattle.da_lang.specs.declared.query.Pattern.{Pattern}
use Rattle.da_lang.specs.declared.query.Pattern.TheVariants as pattern
use Rattle.da_lang.specs.declared.query.Pattern.TheOpen as pattern_layer
use Rattle.da_lang.specs.declared.query.Pattern.TheFolds.{fold-roll-Pattern}
use Rattle.da_lang.specs.declared.query.RGen.{RGen}
use Rattle.da_lang.specs.declared.query.Source.TheVariants as source
use Rattle.da_lang.specs.declared.query.Term.{Term}
use Rattle.da_lang.specs.declared.query.Term.TheVariants as term
use Rattle.da_lang.specs.declared.query.Term.TheOpen as term_layer
use Rattle.da_lang.specs.declared.query.Term.TheFolds.{fold-roll-Term}
use Rattle.da_lang.specs.Matching.{Row, and_then, match_parts, match_tuple, matched, matched_candidate, Candidate, Element, Message, term_value, is_same, where_true}
use Rattle.da_lang.specs.Naming.{names_step, names, pattern_names_step, pattern_names, gen_names}
use Rattle.da_lang.specs.Queries.{entry_candidate, candidates}
use Rattle.da_lang.specs.Steps.{received_at}
use Rattle.da_lang.specs.Turns.{sent_at, with_element, without_element}
use Rattle.da_lang.specs.World.{Data, with_slot, put_slot, slot_of}
use Rattle.da_lang.proofs.CaughtLaws.{then_same}
use Rattle.da_lang.proofs.LiveLaws.{any-map}
use Rattle.da_lang.proofs.MatchingLaws.{term-Const, term-Me, term-Slot, term-Part, term-Tuple, term-Foreign, match-Any, match-Bind, match-Const, match-Me, match-Equal, match-Tuple}
use Rattle.da_lang.proofs.TermInduction.{term_induction, pattern_induction}
use Rattle.da_lang.proofs.WorldLaws.{slot-put_there, slot-put_other}

module _ (s : ℕ) where
  names-Slot : (k : ℕ) → names s (term.Slot k) ≡ nat_eq k s
  names-Slot k = ap (names s) (sym (term.rolls-Slot k)) ∙ fold-roll-Term Bool (names_step s) (term_layer.Slot k)

  names-Tuple : (parts : List Term) → names s (term.Tuple parts) ≡ list_any (names s) parts
  names-Tuple parts = ap (names s) (sym (term.rolls-Tuple parts)) ∙ fold-roll-Term Bool (names_step s) (term_layer.Tuple parts) ∙ any-map (names s) parts

  pattern_names-Equal : (t : Term) → pattern_names s (pattern.Equal t) ≡ names s t
  pattern_names-Equal t = ap (pattern_names s) (sym (pattern.rolls-Equal t)) ∙ fold-roll-Pattern Bool (pattern_names_step s) (pattern_layer.Equal t)

  pattern_names-Tuple : (parts : List Pattern) → pattern_names s (pattern.Tuple parts) ≡ list_any (pattern_names s) parts
  pattern_names-Tuple parts = ap (pattern_names s) (sym (pattern.rolls-Tuple parts)) ∙ fold-roll-Pattern Bool (pattern_names_step s) (pattern_layer.Tuple parts) ∙ any-map (pattern_names s) parts

module _ (me : ℕ) (slots : List Val) (s : ℕ) (x : Val) where
  abbrev Stays : Term → Type 0
  Stays t = names s t ≡ false → (row : Row) → term_value me (with_slot slots s x) row t ≡ term_value me slots row t

  terms_stay : (parts : List Term) → AllByRecursion Stays parts → list_any (names s) parts ≡ false → (row : Row) → map (term_value me (with_slot slots s x) row) parts ≡ map (term_value me slots row) parts
  terms_stay [] each none row = refl
  terms_stay (t ∷ ts) each none row =
      let (first, others) = or_parts (names s t) (list_any (names s) ts) none in
      ap (λ z. z ∷ map (term_value me (with_slot slots s x) row) ts) (each.0 first row) ∙ ap (λ zs. term_value me slots row t ∷ zs) (terms_stay ts each.1 others row)

  -- A term that does not name a slot stays as it is when the slot changes.
  pub term_stays : (t : Term) → Stays t
  term_stays =
      term_induction Stays
      (λ c none row. term-Const me (with_slot slots s x) row c ∙ sym (term-Const me slots row c))
      (λ none row. term-Me me (with_slot slots s x) row ∙ sym (term-Me me slots row))
      (λ k none row. term-Slot me (with_slot slots s x) row k ∙ slot-put_other slots s k x (λ e. false≢true (sym none ∙ names-Slot s k ∙ (unsigned_Decides k s).1 e)) ∙ sym (term-Slot me slots row k))
      (λ k none row. term-Part me (with_slot slots s x) row k ∙ sym (term-Part me slots row k))
      (λ parts each none row. term-Tuple me (with_slot slots s x) row parts ∙ ap val.Tuple (terms_stay parts each (sym (names-Tuple s parts) ∙ none) row) ∙ sym (term-Tuple me slots row parts))
      (λ none row. term-Foreign me (with_slot slots s x) row ∙ sym (term-Foreign me slots row))

  abbrev MatchStays : Pattern → Type 0
  MatchStays p = pattern_names s p ≡ false → (y : Val) (row : Row) → matched me (with_slot slots s x) p y row ≡ matched me slots p y row

  parts_stay : (ps : List Pattern) → AllByRecursion MatchStays ps → list_any (pattern_names s) ps ≡ false → (ys : List Val) (row : Row) → match_parts (map (matched me (with_slot slots s x)) ps) ys row ≡ match_parts (map (matched me slots) ps) ys row
  parts_stay [] each none [] row = refl
  parts_stay [] each none (y ∷ ys) row = refl
  parts_stay (p ∷ ps) each none [] row = refl
  parts_stay (p ∷ ps) each none (y ∷ ys) row =
      let (first, others) = or_parts (pattern_names s p) (list_any (pattern_names s) ps) none in
      ap (λ z. and_then z (match_parts (map (matched me (with_slot slots s x)) ps) ys)) (each.0 first y row)
      ∙ then_same (matched me slots p y row) _ _ (parts_stay ps each.1 others ys)

  tuple_stays : (ps : List Pattern) → AllByRecursion MatchStays ps → list_any (pattern_names s) ps ≡ false → (y : Val-F Val) (row : Row) → match_tuple (map (matched me (with_slot slots s x)) ps) y row ≡ match_tuple (map (matched me slots) ps) y row
  tuple_stays ps each none (layer.Tuple ys) row = parts_stay ps each none ys row
  tuple_stays ps each none (layer.Int i) row = refl
  tuple_stays ps each none (layer.Bool b) row = refl
  tuple_stays ps each none (layer.Text t) row = refl
  tuple_stays ps each none (layer.Proc p) row = refl
  tuple_stays ps each none (layer.Set ys) row = refl

  -- The same of a pattern.
  pub match_stays : (p : Pattern) → MatchStays p
  match_stays =
      pattern_induction MatchStays
      (λ none y row. match-Any me (with_slot slots s x) y row ∙ sym (match-Any me slots y row))
      (λ none y row. match-Bind me (with_slot slots s x) y row ∙ sym (match-Bind me slots y row))
      (λ c none y row. match-Const me (with_slot slots s x) y row c ∙ sym (match-Const me slots y row c))
      (λ none y row. match-Me me (with_slot slots s x) y row ∙ sym (match-Me me slots y row))
      (λ t none y row. match-Equal me (with_slot slots s x) y row t ∙ ap (λ z. where_true (is_same y z) row) (term_stays t (sym (pattern_names-Equal s t) ∙ none) row) ∙ sym (match-Equal me slots y row t))
      (λ ps each none y row. match-Tuple me (with_slot slots s x) y row ps ∙ tuple_stays ps each (sym (pattern_names-Tuple s ps) ∙ none) (out-Val y) row ∙ sym (match-Tuple me slots y row ps))

-- The same of a candidate against the patterns of a generator.
pub candidate_stays : (d : Data) (s : ℕ) (x : Val) (g : RGen) → gen_names s g ≡ false → (c : Candidate) (row : Row) → matched_candidate (put_slot d s x) g.message g.peer c row ≡ matched_candidate d g.message g.peer c row
candidate_stays d s x g none (Element y) row = match_stays d.me d.slots s x g.message (or_parts (pattern_names s g.message) (pattern_names s g.peer) none).0 y row
candidate_stays d s x g none (Message y p) row =
    let (message_none, peer_none) = or_parts (pattern_names s g.message) (pattern_names s g.peer) none in
    ap (λ z. and_then z (matched d.me (with_slot d.slots s x) g.peer (val.Proc p))) (match_stays d.me d.slots s x g.message message_none y row)
    ∙ then_same (matched d.me d.slots g.message y row) _ _ (match_stays d.me d.slots s x g.peer peer_none (val.Proc p))

-- Candidates after a change. Those of the other sources are the same by computation.

module _ (m : Val) (p time : ℕ) (d : Data) where
  -- A message that is received is one more candidate of that history, at its end.
  pub candidates-received : candidates (received_at m p time d) source.Received ≡ candidates d source.Received ++ Message m p ∷ []
  candidates-received = map-append entry_candidate d.received (record { message = m; peer = p; time = time } ∷ [])

  -- So is one that is sent.
  pub candidates-sent : candidates (sent_at m p time d) source.Sent ≡ candidates d source.Sent ++ Message m p ∷ []
  candidates-sent = map-append entry_candidate d.sent (record { message = m; peer = p; time = time } ∷ [])

module _ (d : Data) (s : ℕ) where
  -- A slot with another value has the elements of that value as candidates, and the other slots have theirs.
  pub candidates-put : (x : Val) → 0 < s → s ≤ length d.slots → candidates (put_slot d s x) (source.Slot s) ≡ map Element (elements_of x)
  candidates-put x above within = ap (λ z. map Element (elements_of z)) (slot-put_there d.slots s x above within)

  pub candidates-put_other : (x : Val) (t : ℕ) → (t ≡ s → ⊥) → candidates (put_slot d s x) (source.Slot t) ≡ candidates d (source.Slot t)
  candidates-put_other x t other = ap (λ z. map Element (elements_of z)) (slot-put_other d.slots s t x other)

  -- An element that comes or leaves comes to the set of candidates, or leaves it.
  pub candidates-with : (x : Val) → 0 < s → s ≤ length d.slots → candidates (with_element s x d) (source.Slot s) ≡ map Element (set_insert val_cmp (elements_of (slot_of d s)) x)
  candidates-with x above within =
      candidates-put (val.Set (set_insert val_cmp (elements_of (slot_of d s)) x)) above within ∙ ap (map Element) (elements_of-Set (set_insert val_cmp (elements_of (slot_of d s)) x))

  pub candidates-without : (x : Val) → 0 < s → s ≤ length d.slots → candidates (without_element s x d) (source.Slot s) ≡ map Element (set_remove val_cmp (elements_of (slot_of d s)) x)
  candidates-without x above within =
      candidates-put (val.Set (set_remove val_cmp (elements_of (slot_of d s)) x)) above within ∙ ap (map Element) (elements_of-Set (set_remove val_cmp (elements_of (slot_of d s)) x))
