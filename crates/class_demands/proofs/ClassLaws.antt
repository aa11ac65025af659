-- The rules of types in a class of a tree are what the class demands.
use Rattle.std.specs.Prelude.{◌≡◌, refl, ℕ, zero, suc, ◌+◌, Bool, true, false, cond, List, [], ◌∷◌, ◌++◌, map, flat_map, find, bytes_eq, Some, None, option_map, slice_get}
use Rattle.std.specs.List.{AllByRecursion}
use Rattle.std.proofs.Common.{◌∙◌, ap₂, sym, subst, arith}
use Rattle.da_lang.specs.declared.program.Class.{Class}
use Rattle.da_lang.specs.declared.tree.ClassTree.{ClassTree}
use Rattle.da_lang.specs.declared.tree.MessageDecl.{MessageDecl}
use Rattle.da_lang.specs.declared.ty.Ty.TheVariants as t
use Rattle.da_lang.specs.QueryTypes.{given, declared, type_at}
use Rattle.da_lang.specs.Resolution.{resolved_class}
use Rattle.da_lang.specs.Typing.{Slots, known, filled_slots, filled_class, class_breaks, item_breaks, handler_breaks}
use Rattle.type_table.specs.declared.scheme.Scheme.TheVariants as s
use Rattle.type_table.specs.Fits.{Meaning}
use Rattle.type_table.proofs.SchemeLaws.{stands_text, stands_tuple}
use Rattle.type_demands.specs.declared.known.MessageScheme.{MessageScheme}
use Rattle.type_demands.specs.declared.known.SlotScheme.TheVariants as slot
use Rattle.type_demands.specs.KnownView.{slot_sym, slot_in, message_in, whole_sym}
use Rattle.type_demands.specs.Meets.{Means}
use Rattle.type_demands.specs.Syms.{found}
use Rattle.type_demands.specs.Demands.{all_met}
use Rattle.untyped_laws.specs.Flow.{class_steps, bound, lacking}
use Rattle.untyped_laws.specs.Retyped.{put_message, put_slots}
use Rattle.class_demands.specs.Heads.{after_steps, heads}
use Rattle.class_demands.specs.Prefix.{none_upto, upto, headed, always, class_upto}
use Rattle.class_demands.specs.Programs.{class_context, class_lines, class_demands}
use Rattle.class_demands.specs.Statements.{item_demands, handler_demands}
use Rattle.class_demands.specs.Unknowns.{put, scheme_of, declared_slot, declared_message}
use Rattle.class_demands.proofs.Below.{Below}
use Rattle.class_demands.proofs.BindLaws.{Tied, IsFree, Once}
use Rattle.class_demands.proofs.HeadLaws.{steps_tie}
use Rattle.class_demands.proofs.NeededLaws.{heads_needed}
use Rattle.class_demands.proofs.PrefixLaws.{told_both}
use Rattle.class_demands.proofs.StatementLaws.{items_say, handlers_say}
use Rattle.class_demands.proofs.UnknownLaws.{scheme_stands, parts_stand}

-- the numbers of slots without types
lacks_each : (P : ℕ → Type 0) (first : ℕ) (slots : Slots) → ((k : ℕ) → slice_get slots k ≡ Some None → P (first + k)) → AllByRecursion P (lacking first slots)
lacks_each P first [] each = tt
lacks_each P first (None ∷ slots) each =
    let here : first + 0 ≡ first = omega arith in
    (subst P here (each 0 refl), lacks_each P (suc first) slots (λ k e. let on : first + suc k ≡ suc first + k = omega arith in subst P on (each (suc k) e)))
lacks_each P first (Some ty ∷ slots) each = lacks_each P (suc first) slots (λ k e. let on : first + suc k ≡ suc first + k = omega arith in subst P on (each (suc k) e))

lacks_once : (first : ℕ) (slots : Slots) → Once (lacking first slots)
lacks_once first [] = tt
lacks_once first (None ∷ slots) =
    (lacks_each (λ j. first ≡ j → ⊥) (suc first) slots (λ k e same. let past : first ≡ suc first + k = same in absurd (omega (arith, past))), lacks_once (suc first) slots)
lacks_once first (Some ty ∷ slots) = lacks_once (suc first) slots

every : (P : ℕ → Type 0) → ((k : ℕ) → P k) → (ks : List ℕ) → AllByRecursion P ks
every P each [] = tt
every P each (k ∷ ks) = (each k, every P each ks)

module _ (m : Meaning) where
  -- messages
  whole_is : (head : ℕ → Bool) (x : MessageDecl) → Some (t.Tuple (t.Text ∷ map (put m) x.parts)) ≡ found m head (whole_sym (Some (declared_message x)))
  whole_is head x =
      sym (stands_tuple m (s.Text ∷ map scheme_of x.parts)
      ∙ ap₂ (λ o p. given (given o (λ first. given p (λ others. Some (first ∷ others)))) (λ types. Some (t.Tuple types))) (stands_text m) (parts_stand m x.parts))

  pub tagged : (messages : List MessageDecl) (head : ℕ → Bool) (tag : List ℕ) → declared (map (put_message (put m)) messages) tag ≡ found m head (message_in (map declared_message messages) tag)
  tagged [] head tag = refl
  tagged (x ∷ xs) head tag = go (bytes_eq x.tag tag) (tagged xs head tag)
    where
      go : (b : Bool) → declared (map (put_message (put m)) xs) tag ≡ found m head (message_in (map declared_message xs) tag)
          → given (cond b (Some (put_message (put m) x)) (find (λ (y : MessageDecl). bytes_eq y.tag tag) (map (put_message (put m)) xs))) (λ (y : MessageDecl). Some (t.Tuple (t.Text ∷ y.parts)))
          ≡ found m head (whole_sym (cond b (Some (declared_message x)) (find (λ (y : MessageScheme). bytes_eq y.tag tag) (map declared_message xs))))
      go true others = whole_is head x
      go false others = others

  -- declared slots
  slot_is : (number k : ℕ) (slots : Slots) → given (slice_get (map (option_map (put m)) slots) k) (λ o. o) ≡ found m always (slot_sym number (slice_get (map declared_slot slots) k))
  slot_is number k [] = refl
  slot_is number zero (None ∷ slots) = refl
  slot_is number zero (Some ty ∷ slots) = sym (scheme_stands m ty)
  slot_is number (suc k) (o ∷ slots) = slot_is number k slots

  begin_means : (slots : Slots) (k : ℕ) → type_at (map (option_map (put m)) slots) k ≡ found m always (slot_in (map declared_slot slots) k)
  begin_means slots zero = refl
  begin_means slots (suc k) = slot_is (suc k) k slots

  untyped_there : (slots : Slots) (k : ℕ) → slice_get slots k ≡ Some None → slice_get (map declared_slot slots) k ≡ Some slot.Untyped
  untyped_there [] k e = absurd (cc)
  untyped_there (None ∷ slots) zero e = refl
  untyped_there (Some ty ∷ slots) zero e = absurd (cc)
  untyped_there (o ∷ slots) (suc k) e = untyped_there slots k e

  none_there : (slots : Slots) (k : ℕ) → slice_get slots k ≡ Some None → slice_get (map (option_map (put m)) slots) k ≡ Some None
  none_there [] k e = absurd (cc)
  none_there (None ∷ slots) zero e = refl
  none_there (Some ty ∷ slots) zero e = absurd (cc)
  none_there (o ∷ slots) (suc k) e = none_there slots k e

  begin_free : (slots : Slots) (k : ℕ) → slice_get slots k ≡ Some None → IsFree m (map (option_map (put m)) slots) (map declared_slot slots) (1 + k)
  begin_free slots k e =
      let on : suc k ≡ 1 + k = omega arith in
      subst (IsFree m (map (option_map (put m)) slots) (map declared_slot slots)) on (record { scheme = untyped_there slots k e; ty = none_there slots k e })

  begin_ties : (slots : Slots) → Tied m always (map (option_map (put m)) slots) (map declared_slot slots) (lacking 1 slots)
  begin_ties slots = record {
    means = begin_means slots;
    free = lacks_each (IsFree m (map (option_map (put m)) slots) (map declared_slot slots)) 1 slots (begin_free slots);
    once = lacks_once 1 slots;
  }

  module _ (below : Below) (messages : List MessageDecl) (c : ClassTree) where
    abbrev x : Class
    x = resolved_class c

    abbrev typed_messages : List MessageDecl
    typed_messages = map (put_message (put m)) messages

    abbrev schemes_of : List MessageScheme
    schemes_of = map declared_message messages

    abbrev pub head : ℕ → Bool
    head = headed m (heads schemes_of x.queries (class_steps x) (map declared_slot x.slots)) always

    class_ties : Tied m head (filled_slots typed_messages (put_slots (put m) x)) (after_steps schemes_of x.queries (class_steps x) (map declared_slot x.slots)) []
    class_ties =
        let start : Tied m always (map (option_map (put m)) x.slots) (map declared_slot x.slots) (bound (class_steps x)) = subst (Tied m always (map (option_map (put m)) x.slots) (map declared_slot x.slots)) (sym (below.once c)) (begin_ties x.slots) in
        subst (λ z. Tied m head z (after_steps schemes_of x.queries (class_steps x) (map declared_slot x.slots)) []) (sym (below.flow typed_messages (put_slots (put m) x)))
        (steps_tie m below typed_messages schemes_of x.queries (tagged messages) (class_steps x) always (map (option_map (put m)) x.slots) (map declared_slot x.slots) (every (λ k. true ≡ true) (λ k. refl) (bound (class_steps x))) start)

    pub class_means : Means m head (known typed_messages x.queries (filled_slots typed_messages (put_slots (put m) x))) (class_context schemes_of x)
    class_means = record { slots = class_ties.means; messages = tagged messages head }

    lines_met : (n : ℕ) → none_upto n (class_breaks typed_messages (filled_class typed_messages (put_slots (put m) x))) ≡ all_met m head (upto n (class_lines schemes_of x))
    lines_met n =
        let slots = filled_slots typed_messages (put_slots (put m) x) in
        let context = class_context schemes_of x in
        told_both n m head
        (flat_map (item_breaks typed_messages x.queries slots) (x.setup ++ x.run)) (flat_map (handler_breaks typed_messages x.queries slots) x.handlers)
        (flat_map (item_demands context x.queries) (x.setup ++ x.run)) (flat_map (handler_demands context x.queries) x.handlers)
        (items_say n m head below typed_messages x.queries slots context class_means (x.setup ++ x.run))
        (handlers_say n m head below typed_messages x.queries slots context class_means x.handlers)

    pub class_met : (n : ℕ) → none_upto n (class_breaks typed_messages (filled_class typed_messages (put_slots (put m) x))) ≡ all_met m always (class_upto n (class_demands schemes_of x))
    unfolding class_demands
    class_met n = lines_met n ∙ heads_needed m (heads schemes_of x.queries (class_steps x) (map declared_slot x.slots)) always (upto n (class_lines schemes_of x))
