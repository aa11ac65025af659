-- The rows of typed generators are found strictly.
use Rattle.std.specs.Prelude.{◌≡◌, refl, ℕ, true, List, [], ◌∷◌, map, Option, Some, None}
use Rattle.std.specs.List.{filter_map, flat_map}
use Rattle.std.proofs.Common.{◌∙◌, ap, sym}
use Rattle.da_values.specs.declared.val.Val.{Val, out-Val}
use Rattle.da_values.specs.declared.val.Val.TheVariants as val
use Rattle.da_values.specs.Sets.{Has}
use Rattle.da_values.specs.Views.{elements_of}
use Rattle.da_values.proofs.ViewLaws.{elements_of-Set}
use Rattle.da_lang.specs.declared.query.Pattern.{Pattern, out-Pattern}
use Rattle.da_lang.specs.declared.query.RGen.{RGen}
use Rattle.da_lang.specs.declared.query.Source.{Source}
use Rattle.da_lang.specs.declared.query.Source.TheVariants as source
use Rattle.da_lang.specs.declared.ty.Ty.{Ty}
use Rattle.da_lang.specs.declared.ty.Ty.TheVariants as t
use Rattle.da_lang.specs.Matching.{Row, Candidate, Element, matched, matched_candidate, matched_entry}
use Rattle.da_lang.specs.Queries.{candidates, entry_candidate, step_rows, extensions}
use Rattle.da_lang.specs.QueryTypes.{Known, given, when, is_any, pattern_row, message_row, matched_row, slot_type, source_row, peer_row, gen_row, gens_row}
use Rattle.da_lang.specs.Types.{element_of}
use Rattle.da_lang.specs.World.{Entry, Data, at_number, slot_of}
use Rattle.da_types.specs.Totality.{all_there, elements, and_strictly, strict_match, no_peer, strict_source, strict_candidate, strict_steps, strict_extensions}
use Rattle.da_types.proofs.totality.KindLaws.{given_parts, when_parts, is_proc_value}
use Rattle.da_types.proofs.totality.Keeping.{Keeping, Fits, RowFits, EntryFits, Knows}
use Rattle.da_types.proofs.totality.RowsFit.{matched_row_is, message_fits, members_are, step_fits}
use Rattle.da_types.proofs.totality.FoundMatches.{all_are, all_there_are, filtered, flattened, goes_on, match_there, message_there}

module _ (k : Keeping) (known : Known) (d : Data) (w : Knows k known d) where
  -- of one message, of one element
  entry_there : (g : RGen) (e : Entry) → EntryFits k known e → (types found : List Ty) (row : Row) → given (message_row known g.message types) (pattern_row known g.peer t.Proc) ≡ Some found → RowFits k types row → strict_candidate d g row (entry_candidate e) ≡ Some (matched_entry d g.message g.peer e.message e.peer row)
  entry_there g e entry types found row typed fits =
      let (mid, first, second) = given_parts (message_row known g.message types) (pattern_row known g.peer t.Proc) found typed in
      ap (λ z. given z (λ m. and_strictly m (strict_match d g.peer (val.Proc e.peer)))) (message_there k known d w e entry g.message types mid row first fits)
      ∙ goes_on k known d w (matched d.me d.slots g.message e.message row) (strict_match d g.peer (val.Proc e.peer)) (matched d.me d.slots g.peer (val.Proc e.peer))
      (λ s there. match_there k known d w g.peer t.Proc mid found (val.Proc e.peer) s second (is_proc_value e.peer, entry.2) (message_fits k known d w e entry g.message types mid row s first fits there))

  any_there : (p : Pattern) (m : Option Row) → is_any (out-Pattern p) ≡ true → and_strictly m (no_peer d p) ≡ Some m
  any_there p None any = refl
  any_there p (Some s) any = rw any refl

  member_there : (g : RGen) (element : Ty) (x : Val) → Fits k element x → (types mid found : List Ty) (row : Row) → matched_row known g.message element types ≡ Some mid → when (is_any (out-Pattern g.peer)) mid ≡ Some found → RowFits k types row → strict_candidate d g row (Element x) ≡ Some (matched d.me d.slots g.message x row)
  member_there g element x fit types mid found row over second fits =
      let (any, same) = when_parts (is_any (out-Pattern g.peer)) mid found second in
      ap (λ z. given z (λ m. and_strictly m (no_peer d g.peer))) (match_there k known d w g.message element types mid x row (matched_row_is known g.message element types mid over) fit fits)
      ∙ any_there g.peer (matched d.me d.slots g.message x row) any

  abbrev lenient : RGen → Row → Candidate → Option Row
  lenient g row c = matched_candidate d g.message g.peer c row

  -- of all messages of a history
  history_there : (g : RGen) (es : List Entry) → ((e : Entry) → Has es e → EntryFits k known e) → (types found : List Ty) (row : Row) → given (message_row known g.message types) (pattern_row known g.peer t.Proc) ≡ Some found → RowFits k types row
      → given (all_there (map (strict_candidate d g row) (map entry_candidate es))) (λ rs. Some (filter_map (λ r. r) rs)) ≡ Some (filter_map (lenient g row) (map entry_candidate es))
  history_there g es entries types found row typed fits =
      ap (λ z. given z (λ rs. Some (filter_map (λ r. r) rs)))
      (all_are (strict_candidate d g row) entry_candidate (λ (e : Entry). lenient g row (entry_candidate e)) es (λ e among. entry_there g e (entries e among) types found row typed fits))
      ∙ ap Some (filtered (lenient g row) entry_candidate es)

  members_there : (g : RGen) (element : Ty) (vs : List Val) → ((x : Val) → Has vs x → Fits k element x) → (types mid found : List Ty) (row : Row) → matched_row known g.message element types ≡ Some mid → when (is_any (out-Pattern g.peer)) mid ≡ Some found → RowFits k types row
      → given (all_there (map (strict_candidate d g row) (map Element vs))) (λ rs. Some (filter_map (λ r. r) rs)) ≡ Some (filter_map (lenient g row) (map Element vs))
  members_there g element vs each types mid found row over second fits =
      ap (λ z. given z (λ rs. Some (filter_map (λ r. r) rs)))
      (all_are (strict_candidate d g row) Element (λ x. lenient g row (Element x)) vs (λ x among. member_there g element x (each x among) types mid found row over second fits))
      ∙ ap Some (filtered (lenient g row) Element vs)

  abbrev StepThere : RGen → Source → Row → Type 0
  StepThere g s row = given (strict_source d s) (λ cs. given (all_there (map (strict_candidate d g row) cs)) (λ rs. Some (filter_map (λ r. r) rs))) ≡ Some (filter_map (lenient g row) (candidates d s))

  abbrev steps_of : RGen → Row → Option (List Candidate) → Option (List Row)
  steps_of g row found = given found (λ cs. given (all_there (map (strict_candidate d g row) cs)) (λ rs. Some (filter_map (λ r. r) rs)))

  set_there : (g : RGen) (slot : ℕ) (vs : List Val) → at_number d.slots slot ≡ Some (val.Set vs) → elements_of (slot_of d slot) ≡ vs → (row : Row) → steps_of g row (Some (map Element vs)) ≡ Some (filter_map (lenient g row) (map Element vs)) → StepThere g (source.Slot slot) row
  set_there g slot vs there listed row steps =
      ap (λ z. steps_of g row (given z (λ v. given (elements (out-Val v)) (λ members. Some (map Element members))))) there
      ∙ ap (λ z. steps_of g row (given (elements z) (λ members. Some (map Element members)))) (val.outs-Set vs)
      ∙ steps
      ∙ ap (λ z. Some (filter_map (lenient g row) (map Element z))) (sym listed)

  slot_there : (g : RGen) (slot : ℕ) (types found : List Ty) (row : Row) → given (source_row known (source.Slot slot) g.message types) (peer_row known (source.Slot slot) g.peer) ≡ Some found → RowFits k types row → StepThere g (source.Slot slot) row
  slot_there g slot types found row typed fits =
      let (mid, first, second) = given_parts (source_row known (source.Slot slot) g.message types) (peer_row known (source.Slot slot) g.peer) found typed in
      let (element, of_slot, over) = given_parts (given (slot_type known slot) element_of) (λ element. matched_row known g.message element types) mid first in
      let (ty, known_type, is_set) = given_parts (slot_type known slot) element_of element of_slot in
      let (vs, is, each) = members_are k known d w slot ty element known_type is_set in
      set_there g slot vs (w.there slot ty known_type ∙ ap Some is) (ap elements_of is ∙ elements_of-Set vs) row (members_there g element vs each types mid found row over second fits)

  source_there : (g : RGen) (s : Source) (types found : List Ty) (row : Row) → given (source_row known s g.message types) (peer_row known s g.peer) ≡ Some found → RowFits k types row → StepThere g s row
  source_there g source.Received types found row typed fits = history_there g d.received w.received types found row typed fits
  source_there g source.Sent types found row typed fits = history_there g d.sent w.sent types found row typed fits
  source_there g (source.Slot slot) types found row typed fits = slot_there g slot types found row typed fits

  pub steps_there : (g : RGen) (types found : List Ty) (row : Row) → gen_row known g types ≡ Some found → RowFits k types row → strict_steps d g row ≡ Some (step_rows d g row)
  steps_there g types found row typed fits = source_there g g.source types found row typed fits

  -- all rows of generators
  pub rows_there : (gens : List RGen) (types found : List Ty) (row : Row) → gens_row known gens types ≡ Some found → RowFits k types row → strict_extensions d gens row ≡ Some (extensions d gens row)
  rows_there [] types found row typed fits = refl
  rows_there (g ∷ gens) types found row typed fits =
      let (mid, first, others) = given_parts (gen_row known g types) (gens_row known gens) found typed in
      ap (λ z. given z (λ rs. given (all_there (map (strict_extensions d gens) rs)) (λ found. Some (flat_map (λ r. r) found)))) (steps_there g types mid row first fits)
      ∙ ap (λ z. given z (λ found. Some (flat_map (λ r. r) found)))
      (all_there_are (strict_extensions d gens) (extensions d gens) (step_rows d g row) (λ s among. rows_there gens mid found s others (step_fits k known d w g types mid row s first fits among)))
      ∙ ap Some (flattened (extensions d gens) (step_rows d g row))
