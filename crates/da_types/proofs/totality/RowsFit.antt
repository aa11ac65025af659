-- The rows of typed generators have the types that the generators give.
use Rattle.std.specs.Prelude.{◌≡◌, ℕ, true, List, [], ◌∷◌, Some}
use Rattle.std.proofs.Common.{◌∙◌, ap, sym, subst, inl, inr}
use Rattle.da_values.specs.declared.val.Val.{Val, out-Val}
use Rattle.da_values.specs.declared.val.Val.TheVariants as val
use Rattle.da_values.specs.Sets.{Has}
use Rattle.da_values.specs.Views.{elements_of}
use Rattle.da_values.proofs.Members.{of_filter_map, of_flat_map, of_map, each_from_all}
use Rattle.da_values.proofs.ViewLaws.{elements_of-Set}
use Rattle.da_lang.specs.declared.query.Pattern.{Pattern, out-Pattern}
use Rattle.da_lang.specs.declared.query.RGen.{RGen}
use Rattle.da_lang.specs.declared.query.Source.{Source}
use Rattle.da_lang.specs.declared.query.Source.TheVariants as source
use Rattle.da_lang.specs.declared.ty.Ty.{Ty}
use Rattle.da_lang.specs.declared.ty.Ty.TheVariants as t
use Rattle.da_lang.specs.Matching.{Row, Candidate, Element, matched, matched_candidate, matched_entry}
use Rattle.da_lang.specs.Queries.{candidates, entry_candidate, step_rows, extensions}
use Rattle.da_lang.specs.QueryTypes.{Known, given, holds_of, declared, message_type, message_row, matched_row, is_any, pattern_row, pattern_tag, slot_type, source_row, peer_row, gen_row, gens_row}
use Rattle.da_lang.specs.Shaped.{tag_of}
use Rattle.da_lang.specs.Types.{is_of, is_flat, element_of}
use Rattle.da_lang.specs.World.{Entry, Data, slot_of}
use Rattle.da_types.proofs.totality.KindLaws.{given_parts, when_parts, if_parts, is_proc_value, set_type, set_of_type}
use Rattle.da_types.proofs.totality.Keeping.{Keeping, Fits, RowFits, EntryFits, Knows}
use Rattle.da_types.proofs.totality.TermLaws.{flat_is}
use Rattle.da_types.proofs.totality.MatchesFit.{then_parts, match_fits, tag_matched}

-- a pattern over a type of at most 32 levels is one over the type
pub matched_row_is : (known : Known) (p : Pattern) (ty : Ty) (types found : List Ty) → matched_row known p ty types ≡ Some found → pattern_row known p ty types ≡ Some found
matched_row_is known p ty types found e = (if_parts (is_flat ty) (pattern_row known p ty types) found e).1

-- a message that a tagged pattern matches is of the type that is declared for the tag
pub message_is : (known : Known) (tag : List ℕ) (ty : Ty) (v : Val) → holds_of (given (tag_of (out-Val v)) (declared known.messages)) (λ ty. is_of ty v) ≡ true → tag_of (out-Val v) ≡ Some tag → message_type known tag ≡ Some ty → is_of ty v ≡ true
message_is known tag ty v is tagged e =
    let of_tag : given (tag_of (out-Val v)) (declared known.messages) ≡ Some ty = ap (λ z. given z (declared known.messages)) tagged ∙ flat_is (declared known.messages tag) ty e in
    ap (λ z. holds_of z (λ ty. is_of ty v)) (sym of_tag) ∙ is

module _ (k : Keeping) (known : Known) (d : Data) (w : Knows k known d) where
  -- a message that matches
  pub message_fits : (e : Entry) → EntryFits k known e → (message : Pattern) (types mid : List Ty) (row s : Row) → message_row known message types ≡ Some mid → RowFits k types row → matched d.me d.slots message e.message row ≡ Some s → RowFits k mid s
  message_fits e entry message types mid row s typed fits there =
      let (ty, known_type, over) = given_parts (given (pattern_tag (out-Pattern message)) (message_type known)) (λ ty. pattern_row known message ty types) mid typed in
      let (tag, tagged, of_tag) = given_parts (pattern_tag (out-Pattern message)) (message_type known) ty known_type in
      let is = message_is known tag ty e.message entry.0 (tag_matched d.me d.slots message tag e.message row s tagged there) of_tag in
      match_fits k known d message ty types mid e.message row s over (is, entry.1) fits there

  pub entry_fits : (e : Entry) → EntryFits k known e → (message peer : Pattern) (types found : List Ty) (row r : Row) → given (message_row known message types) (pattern_row known peer t.Proc) ≡ Some found → RowFits k types row → matched_entry d message peer e.message e.peer row ≡ Some r → RowFits k found r
  entry_fits e entry message peer types found row r typed fits f =
      let (mid, first, second) = given_parts (message_row known message types) (pattern_row known peer t.Proc) found typed in
      let (s, there, rest) = then_parts (matched d.me d.slots message e.message row) (matched d.me d.slots peer (val.Proc e.peer)) r f in
      match_fits k known d peer t.Proc mid found (val.Proc e.peer) s r second (is_proc_value e.peer, entry.2) (message_fits e entry message types mid row s first fits there) rest

  -- the elements of the set in a slot
  pub members_are : (slot : ℕ) (ty element : Ty) → slot_type known slot ≡ Some ty → element_of ty ≡ Some element → (vs : List Val) × (slot_of d slot ≡ val.Set vs) × ((x : Val) → Has vs x → Fits k element x)
  members_are slot ty element known_type is_set =
      let fit = w.slots slot ty known_type in
      let (vs, is, each) = set_of_type element (slot_of d slot) (subst (λ z. is_of z (slot_of d slot) ≡ true) (set_type ty element is_set) fit.0) in
      (vs, is, λ x among. (each_from_all (is_of element) vs x each among, k.elements vs (subst k.Kept is fit.1) x among))

  -- an element that matches
  pub element_fits : (element : Ty) (x : Val) → Fits k element x → (message : Pattern) (types mid : List Ty) (row s : Row) → matched_row known message element types ≡ Some mid → RowFits k types row → matched d.me d.slots message x row ≡ Some s → RowFits k mid s
  element_fits element x fit message types mid row s over fits there = match_fits k known d message element types mid x row s (matched_row_is known message element types mid over) fit fits there

  member_fits : (slot : ℕ) (x : Val) → Has (elements_of (slot_of d slot)) x → (message peer : Pattern) (types found : List Ty) (row r : Row) → given (source_row known (source.Slot slot) message types) (peer_row known (source.Slot slot) peer) ≡ Some found → RowFits k types row → matched d.me d.slots message x row ≡ Some r → RowFits k found r
  member_fits slot x there message peer types found row r typed fits m =
      let (mid, first, second) = given_parts (source_row known (source.Slot slot) message types) (peer_row known (source.Slot slot) peer) found typed in
      let (element, of_slot, over) = given_parts (given (slot_type known slot) element_of) (λ element. matched_row known message element types) mid first in
      let (ty, known_type, is_set) = given_parts (slot_type known slot) element_of element of_slot in
      let (vs, is, each) = members_are slot ty element known_type is_set in
      let among : Has vs x = subst (λ z. Has z x) {y = vs} (ap elements_of is ∙ elements_of-Set vs) there in
      let (any, same) = when_parts (is_any (out-Pattern peer)) mid found second in
      subst (λ z. RowFits k z r) same (element_fits element x (each x among) message types mid row r over fits m)

  candidate_fits : (source' : Source) (message peer : Pattern) (types found : List Ty) (row r : Row) (c : Candidate) → Has (candidates d source') c → given (source_row known source' message types) (peer_row known source' peer) ≡ Some found → RowFits k types row → matched_candidate d message peer c row ≡ Some r → RowFits k found r
  candidate_fits source.Received message peer types found row r c there typed fits f =
      let (e, among, is) = of_map entry_candidate d.received c there in
      entry_fits e (w.received e among) message peer types found row r typed fits (ap (λ z. matched_candidate d message peer z row) (sym is) ∙ f)
  candidate_fits source.Sent message peer types found row r c there typed fits f =
      let (e, among, is) = of_map entry_candidate d.sent c there in
      entry_fits e (w.sent e among) message peer types found row r typed fits (ap (λ z. matched_candidate d message peer z row) (sym is) ∙ f)
  candidate_fits (source.Slot slot) message peer types found row r c there typed fits f =
      let (x, among, is) = of_map Element (elements_of (slot_of d slot)) c there in
      member_fits slot x among message peer types found row r typed fits (ap (λ z. matched_candidate d message peer z row) (sym is) ∙ f)

  pub step_fits : (g : RGen) (types found : List Ty) (row r : Row) → gen_row known g types ≡ Some found → RowFits k types row → Has (step_rows d g row) r → RowFits k found r
  step_fits g types found row r typed fits h =
      let (c, there, f) = of_filter_map (λ c. matched_candidate d g.message g.peer c row) (candidates d g.source) r h in
      candidate_fits g.source g.message g.peer types found row r c there typed fits f

  -- each row of the generators is of the types that they give
  pub rows_fit : (gens : List RGen) (types found : List Ty) (row r : Row) → gens_row known gens types ≡ Some found → RowFits k types row → Has (extensions d gens row) r → RowFits k found r
  rows_fit [] types found row r typed fits (inl is) =
      let same : types ≡ found = cc in
      subst (λ z. RowFits k z r) same (subst (RowFits k types) (sym is) fits)
  rows_fit [] types found row r typed fits (inr h) = absurd h
  rows_fit (g ∷ gens) types found row r typed fits h =
      let (mid, first, others) = given_parts (gen_row known g types) (gens_row known gens) found typed in
      let (s, by_first, by_others) = of_flat_map (extensions d gens) (step_rows d g row) r h in
      rows_fit gens mid found s r others (step_fits g types mid row s first fits by_first) by_others
