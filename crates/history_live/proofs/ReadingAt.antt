-- A live pattern matches in each process of one number what it matches in one with no slots and no row.
use Rattle.std.specs.Prelude.{◌≡◌, ◌↔◌, ◌<◌, ◌≤◌, ◌+◌, ℕ, Bool, true, false, ◌&&◌, List, [], length, take, get_or, Option, Some, None, is_some, refl}
use Rattle.std.specs.List.{filter}
use Rattle.std.proofs.Common.{ap, sym, subst, ◌∙◌, inl, inr}
use Rattle.std.proofs.lemmas.Bool.{false≢true}
use Rattle.std.proofs.lemmas.List.{take_all}
use Rattle.da_values.specs.declared.val.Val.{Val}
use Rattle.da_values.specs.declared.val.Val.TheVariants as val
use Rattle.da_values.specs.Sets.{Has}
use Rattle.da_lang.specs.declared.query.LivePattern.{LivePattern}
use Rattle.da_lang.specs.declared.query.Pattern.{Pattern}
use Rattle.da_lang.specs.declared.query.RGen.{RGen}
use Rattle.da_lang.specs.declared.query.Source.{Source}
use Rattle.da_lang.specs.Live.{is_history, live_gen, live_pattern}
use Rattle.da_lang.specs.Matching.{Row, and_then, matched, matched_entry}
use Rattle.da_lang.specs.World.{Data}
use Rattle.da_lang.proofs.LiveMatchLaws.{after_row_of, caught, caught_entry, entry_live, match_live}
use Rattle.da_lang.proofs.OnceLaws.{of_once}
use Rattle.da_values.proofs.Members.{of_map}
use Rattle.history_live.proofs.FrontsAt.{has_here, of_one_more}
use Rattle.history_live.specs.Reading.{CanGive, IsMatch, Matches}
use Rattle.query_plan.specs.PlanLive.{history_lives, node_gens}

some_after : (row : Row) (found : Option Row) → is_some (after_row_of row found) ≡ is_some found
some_after row None = refl
some_after row (Some more) = refl

-- both patterns match
both_some : (found : Option Row) (go_on : Row → Option Row) (b : Bool) → ((row : Row) → is_some (go_on row) ≡ b) → is_some (and_then found go_on) ≡ (is_some found && b)
both_some None go_on b each = refl
both_some (Some row) go_on b each = each row

module _ (me : ℕ) (message peer : Pattern) (x : Val) (p : ℕ) where
  abbrev takes_message : Bool
  takes_message = is_some (matched me [] (live_pattern message) x [])

  abbrev takes_peer : Bool
  takes_peer = is_some (matched me [] (live_pattern peer) (val.Proc p) [])

  caught_both : is_some (caught_entry me message peer x p) ≡ (takes_message && takes_peer)
  caught_both =
      both_some (caught me message x) (matched me [] (live_pattern peer) (val.Proc p)) takes_peer
      (λ row. ap is_some (match_live me peer [] (val.Proc p) row) ∙ some_after row (caught me peer (val.Proc p)))

  -- an entry is matched exactly where both parts are
  entry_both : (d : Data) → d.me ≡ me → is_some (matched_entry d (live_pattern message) (live_pattern peer) x p []) ≡ (takes_message && takes_peer)
  entry_both d same =
      ap is_some (entry_live d message peer x p [])
      ∙ some_after [] (caught_entry d.me message peer x p)
      ∙ ap (λ z. is_some (caught_entry z message peer x p)) same
      ∙ caught_both

row_from_some : (found : Option Row) → is_some found ≡ true → (row : Row) × (found ≡ Some row)
row_from_some None e = absurd (cc)
row_from_some (Some row) e = (row, refl)

some_from_row : (found : Option Row) (row : Row) → found ≡ Some row → is_some found ≡ true
some_from_row found row e = ap is_some e

module _ (source : Source) (x : Val) (p me : ℕ) where
  -- what both patterns take, with no slots and no row
  abbrev pub both_take : LivePattern → Bool
  both_take live = is_some (matched me [] live.message x []) && is_some (matched me [] live.peer (val.Proc p) [])

  -- a test that decides whether a pattern is one of this source that matches
  abbrev pub Decides : Bool → LivePattern → Type 0
  Decides b live = (d : Data) → d.me ≡ me → (b ≡ true) ↔ IsMatch source x p d live

  of_gen : (g : RGen) (b : Bool) → g.source ≡ source → b ≡ both_take (live_gen g) → Decides b (live_gen g)
  of_gen g b same is d at_me = (
    (λ e. (same, row_from_some (matched_entry d (live_pattern g.message) (live_pattern g.peer) x p []) (entry_both me g.message g.peer x p d at_me ∙ sym is ∙ e))),
    (λ found. is ∙ sym (entry_both me g.message g.peer x p d at_me) ∙ some_from_row (matched_entry d (live_pattern g.message) (live_pattern g.peer) x p []) found.1.0 found.1.1),
  )

  pub match_here : (live : LivePattern) (b : Bool) → live.source ≡ source → b ≡ both_take live → (g : RGen) → live ≡ live_gen g → Decides b live
  match_here live b same is g e = subst (Decides b) (sym e) (of_gen g b (sym (ap (λ (z : LivePattern). z.source) e) ∙ same) (is ∙ ap both_take e))

  -- none of the first patterns
  abbrev pub NoneYet : List LivePattern → ℕ → Type 0
  NoneYet patterns i = (d : Data) → d.me ≡ me → Matches (take i patterns) source x p d → ⊥

  none_more : (patterns : List LivePattern) (i : ℕ) (live : LivePattern) (b : Bool) → i < length patterns → live ≡ get_or patterns i live → Decides b live → b ≡ false → NoneYet patterns i → NoneYet patterns (i + 1)
  none_more patterns i live b inside here decides is none d at_me (q, there, found) =
      elim (of_one_more patterns i live q inside here there) [
        | inl before ↦ none d at_me (q, before, found)
        | inr same ↦ false≢true (sym is ∙ (decides d at_me).1 (subst (IsMatch source x p d) same found))
      ]

  found_here : (patterns : List LivePattern) (i : ℕ) (live : LivePattern) (b : Bool) → i < length patterns → live ≡ get_or patterns i live → Decides b live → b ≡ true → (d : Data) → d.me ≡ me → (true ≡ true) ↔ Matches patterns source x p d
  found_here patterns i live b inside here decides is d at_me = ((λ e. (live, has_here patterns i live inside here, (decides d at_me).0 is)), (λ found. refl))

  none_found : (patterns : List LivePattern) (i : ℕ) → length patterns ≤ i → NoneYet patterns i → (d : Data) → d.me ≡ me → (false ≡ true) ↔ Matches patterns source x p d
  none_found patterns i past none d at_me =
      ((λ e. absurd (false≢true e)), (λ found. absurd (none d at_me (subst (λ zs. Matches zs source x p d) (sym (take_all i patterns past)) found))))

-- each live pattern of a plan is that of a generator
from_gen : (all patterns : List LivePattern) (live : LivePattern) → patterns ≡ all → CanGive all → Has patterns live → (g : RGen) × (live ≡ live_gen g)
from_gen all patterns live same (nodes, e) h =
    let (g, there, is) = of_map live_gen (filter (λ z. is_history z.source) (node_gens nodes)) live (of_once (history_lives (node_gens nodes)) live (subst (λ zs. Has zs live) (same ∙ e) h)) in
    (g, is)

-- the patterns of a plan one after the other, where a test decides for that of a generator
module _ (source : Source) (x : Val) (p me : ℕ) (all patterns : List LivePattern) (same : patterns ≡ all) where
  module _ (can : CanGive all) (i : ℕ) (live : LivePattern) (inside : i < length patterns) (here : live ≡ get_or patterns i live) (b : Bool) (test : (g : RGen) → live ≡ live_gen g → Decides source x p me b live) where
    decides : Decides source x p me b live
    decides = let (g, is) = from_gen all patterns live same can (has_here patterns i live inside here) in test g is

    pub goes_on : b ≡ false → NoneYet source x p me patterns i → NoneYet source x p me patterns (i + 1)
    goes_on is none = none_more source x p me patterns i live b inside here decides is none

    pub yields : b ≡ true → (d : Data) → d.me ≡ me → (true ≡ true) ↔ Matches all source x p d
    yields is = subst (λ zs. (d : Data) → d.me ≡ me → (true ≡ true) ↔ Matches zs source x p d) same (found_here source x p me patterns i live b inside here decides is)

  pub ends : (i : ℕ) → length patterns ≤ i → NoneYet source x p me patterns i → (d : Data) → d.me ≡ me → (false ≡ true) ↔ Matches all source x p d
  ends i past none = subst (λ zs. (d : Data) → d.me ≡ me → (false ≡ true) ↔ Matches zs source x p d) same (none_found source x p me patterns i past none)
