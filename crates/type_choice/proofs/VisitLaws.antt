-- What code finds where it looks for an order.
use Rattle.std.specs.Prelude.{◌≡◌, refl, ℕ, ◌+◌, ◌<◌, ◌≤◌, ◌⊎◌, Bool, true, false, List, [], ◌∷◌, ◌++◌, length, replicate, Some, slice_get, slice_set}
use Rattle.std.specs.List.{AllByRecursion}
use Rattle.std.proofs.Common.{inl, inr, ◌∙◌, ap, sym, subst, arith, get_or}
use Rattle.std.proofs.lemmas.Bool.{cases_eq}
use Rattle.std.proofs.lemmas.List.{length-set}
use Rattle.type_table.specs.declared.form.Form.{Form}
use Rattle.type_table.specs.declared.form.Form.TheVariants as f
use Rattle.type_table.specs.Fits.{IsTable, IsWithin}
use Rattle.type_table.specs.Settling.{is_marked, mark_in}
use Rattle.type_table.proofs.TableLaws.{set_there, set_elsewhere, get_inside, read_at}
use Rattle.type_choice.specs.declared.order.Walk.{Walk}
use Rattle.type_choice.specs.Order.{needs, needs_in, needs_at}
use Rattle.type_choice.specs.Walks.{AreMarkedTo, Queued, IsVisited, IsWalked, NoneLeft, FromOn}
use Rattle.type_choice.proofs.ListLaws.{all_at, there}
use Rattle.type_choice.proofs.OrderLaws.{begins, IsReleased, taken}

-- the numbers of a form lie in the table
needs_inside : (size at : ℕ) (form : Form) → at ≤ size → IsWithin size at form → AllByRecursion (λ k. k < size) (needs form)
needs_inside size at f.Open le within = tt
needs_inside size at (f.Same k) le within = (omega (arith, le, within), tt)
needs_inside size at f.Int le within = tt
needs_inside size at f.Bool le within = tt
needs_inside size at f.Text le within = tt
needs_inside size at f.Proc le within = tt
needs_inside size at (f.Tuple ks) le within = within
needs_inside size at (f.Set k) le within = (within, tt)

pub part_inside : (forms : List Form) → IsTable forms → (k place part : ℕ) (form : Form) → slice_get forms k ≡ Some form → slice_get (needs form) place ≡ Some part → part < length forms
part_inside forms table k place part form at is =
    let inside : k < length forms = get_inside forms k form at in
    all_at (λ j. j < length forms) (needs form) place part (needs_inside (length forms) k form (omega (arith, inside)) (table k form at)) is

pub queued_of : (old mid new : List (List (ℕ × ℕ))) (part : ℕ) (pair : ℕ × ℕ) (none waiting more : List (ℕ × ℕ)) → slice_get old part ≡ Some waiting → mid ≡ slice_set old part none → more ≡ waiting ++ pair ∷ [] → new ≡ slice_set mid part more → Queued old part pair new
queued_of old mid new part pair none waiting more was first pushed second =
    record {
      size = ap length second ∙ length-set mid part more ∙ same;
      queue = waiting;
      was = was;
      now = ap (λ z. slice_get z part) second ∙ set_there mid part more inside ∙ ap (λ z. Some z) pushed;
      others = λ k off. ap (λ z. slice_get z k) second ∙ set_elsewhere mid k part more off ∙ ap (λ z. slice_get z k) first ∙ set_elsewhere old k part none off;
    }
  where
    same : length mid ≡ length old
    same = ap length first ∙ length-set old part none

    inside : part < length mid
    inside = omega (arith, same, get_inside old part waiting was)

-- a visit
module _ (forms : List Form) (k : ℕ) (old : Walk) (seen : List Bool) (same : seen ≡ old.marks) (answer : Bool) (is : answer ≡ is_marked seen k) where
  marked_there : is_marked old.marks k ≡ answer
  marked_there = ap (λ z. is_marked z k) (sym same) ∙ sym is

  pub visit_stays : answer ≡ true → IsVisited forms k old old
  visit_stays on = inl (record { marked_is = marked_there ∙ on; marks = refl; waits = refl; order = refl })

  module _ (off : answer ≡ false) (form : Form) (at : slice_get forms k ≡ Some form) (again : List Bool) (same_again : again ≡ old.marks) (from : ℕ) (so_far : AreMarkedTo old.marks (needs_at forms k) from) where
    form_needs : needs form ≡ needs_at forms k
    form_needs = ap needs_in (sym at)

    begun : AreMarkedTo again (needs form) from
    begun = subst (λ z. AreMarkedTo z (needs form) from) (sym same_again) (subst (λ z. AreMarkedTo old.marks z from) (sym form_needs) so_far)

    back : (place : ℕ) → AreMarkedTo again (needs form) place → AreMarkedTo old.marks (needs_at forms k) place
    back place to = subst (λ z. AreMarkedTo old.marks z place) form_needs (subst (λ z. AreMarkedTo z (needs form) place) same_again to)

    pub visit_comes : k < length old.marks → (AreMarkedTo again (needs form) from → AreMarkedTo again (needs form) (length (needs form))) → (new : Walk) → new.marks ≡ slice_set old.marks k true → new.waits ≡ old.waits → new.order ≡ old.order ++ k ∷ [] → IsVisited forms k old new
    visit_comes inside all new marks waits order =
        let (b, there_is) = there old.marks k inside in
        inr (inl (record {
          unset = there_is ∙ ap (λ z. Some z) (sym (ap mark_in there_is) ∙ marked_there ∙ off);
          all = subst (λ n. AreMarkedTo old.marks (needs_at forms k) n) (ap length form_needs) (back (length (needs form)) (all begun));
          marks = marks;
          waits = waits;
          order = order;
        }))

    pub visit_waits : (place part : ℕ) → slice_get (needs form) place ≡ Some part → is_marked again part ≡ false → (AreMarkedTo again (needs form) from → AreMarkedTo again (needs form) place) → (new : Walk) → new.marks ≡ old.marks → Queued old.waits part (k, place) new.waits → new.order ≡ old.order → IsVisited forms k old new
    visit_waits place part needed unset before new marks queued order =
        inr (inr (record {
          place = place;
          part = part;
          is = ap (λ z. slice_get z place) (sym form_needs) ∙ needed;
          before = back place (before begun);
          unset = ap (λ z. is_marked z part) (sym same_again) ∙ unset;
          queued = queued;
          marks = marks;
          order = order;
        }))

-- the parts of a form one by one
pub marked_next : (marks : List Bool) (parts : List ℕ) (from place : ℕ) → (AreMarkedTo marks parts from → AreMarkedTo marks parts place) → ((part : ℕ) → slice_get parts place ≡ Some part → is_marked marks part ≡ true) → AreMarkedTo marks parts from → AreMarkedTo marks parts (place + 1)
marked_next marks parts from place so_far on begun j other few there_is = go (cases_eq j place)
  where
    go : ((j ≡ place) ⊎ (j ≡ place → ⊥)) → is_marked marks other ≡ true
    go (inl e) = on other (ap (slice_get parts) (sym e) ∙ there_is)
    go (inr off) = so_far begun j other (omega (arith, few, off)) there_is

pub marked_all : (marks : List Bool) (parts : List ℕ) (from place count : ℕ) → (AreMarkedTo marks parts from → AreMarkedTo marks parts place) → count ≡ length parts → count ≤ place → AreMarkedTo marks parts from → AreMarkedTo marks parts (length parts)
marked_all marks parts from place count so_far is past begun j other few there_is = so_far begun j other (omega (arith, few, is, past)) there_is

-- the beginning of the walk
pub walk_begins : (forms : List Form) (walk : Walk) (n m : ℕ) → n ≡ length forms → m ≡ length forms → walk.marks ≡ replicate n false → walk.waits ≡ replicate m [] → walk.order ≡ [] → IsWalked forms 0 (FromOn 0) walk
walk_begins forms walk n m n_is m_is marks waits order = begins forms walk (marks ∙ ap (λ z. replicate z false) n_is) (waits ∙ ap (λ z. replicate z []) m_is) order

-- the number at a place of the order
pub released_number : (forms : List Form) (first : ℕ) (walk : Walk) → IsWalked forms first NoneLeft walk → (seen : List ℕ) (number : ℕ) → seen ≡ walk.order → first < length walk.order → number ≡ get_or seen first 0 → (slice_get walk.order first ≡ Some number) × (number < length walk.waits)
released_number forms first walk w seen number same before is =
    let at : slice_get walk.order first ≡ Some number = read_at walk.order first number 0 before (is ∙ ap (λ z. get_or z first 0) same) in
    let inside : number < length forms = all_at (λ j. j < length forms) walk.order first number w.inside at in
    (at, omega (arith, inside, w.sizes.waits))

pub release_begins : (forms : List Form) (first : ℕ) (old : Walk) → IsWalked forms first NoneLeft old → (seen : List ℕ) (number : ℕ) → seen ≡ old.order → first < length old.order → number ≡ get_or seen first 0
    → (none waiting items : List (ℕ × ℕ)) → none ≡ [] → slice_get old.waits number ≡ Some waiting → items ≡ waiting → (new : Walk) → new.waits ≡ slice_set old.waits number none → new.marks ≡ old.marks → new.order ≡ old.order → IsReleased forms first items 0 new
release_begins forms first old w seen number same before is none waiting items empty was items_are new waits marks order =
    taken forms first old new items w
    (record {
      number = number;
      at = (released_number forms first old w seen number same before is).0;
      was = was ∙ ap (λ z. Some z) (sym items_are);
      waits = waits ∙ ap (λ z. slice_set old.waits number z) empty;
      marks = marks;
      order = order;
    })
