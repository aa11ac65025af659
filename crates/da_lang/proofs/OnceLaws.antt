-- The live patterns of a class are those of its generators over histories, each once.
use Rattle.std.specs.Prelude.{◌≡◌, ◌⊎◌, ◌↔◌, pos, Bool, true, false, not, cond, List, [], ◌∷◌, map, refl}
use Rattle.std.specs.List.{filter}
use Rattle.std.specs.Ordering.{is_eq}
use Rattle.std.specs.declared.cmp.Ordering.{Ordering}
use Rattle.std.specs.declared.cmp.Ordering.TheVariants.{Less, Equal, Greater}
use Rattle.std.proofs.Common.{ap, sym, subst, ◌∙◌, inl, inr}
use Rattle.std.proofs.lemmas.Bool.{false≢true}
use Rattle.std.proofs.lemmas.Cmp.{tied_itself}
use Rattle.da_values.specs.declared.val.Val.{Val}
use Rattle.da_values.specs.declared.val.Val.TheVariants as val
use Rattle.da_values.specs.Order.{val_cmp}
use Rattle.da_values.specs.Sets.{Has, Distinct}
use Rattle.da_values.specs.Views.{parts_of}
use Rattle.da_values.proofs.Members.{Has-filter, of_filter, Has-map, of_map}
use Rattle.da_values.proofs.OrderLaws.{val_order, same_from_val_cmp}
use Rattle.da_values.proofs.ViewLaws.{parts_of-Tuple}
use Rattle.da_lang.specs.declared.program.Class.{Class}
use Rattle.da_lang.specs.declared.query.LivePattern.{LivePattern}
use Rattle.da_lang.specs.declared.query.Pattern.{Pattern}
use Rattle.da_lang.specs.declared.query.RGen.{RGen}
use Rattle.da_lang.specs.declared.query.Source.{Source}
use Rattle.da_lang.specs.declared.query.Source.TheVariants as source
use Rattle.da_lang.specs.Live.{spelled, source_spelled, live_spelled, same_live, once, live, live_gen, class_gens, is_history}
use Rattle.da_lang.proofs.SpelledLaws.{same_tag, same_rest, same_number, pattern_tells}

pub source_tells : (s t : Source) → source_spelled s ≡ source_spelled t → s ≡ t
source_tells source.Received source.Received e = refl
source_tells source.Received source.Sent e = let wrong = same_tag 0 1 [] [] e in cc
source_tells source.Received (source.Slot k) e = let wrong = same_tag 0 2 [] (val.Int (pos k) ∷ []) e in cc
source_tells source.Sent source.Received e = let wrong = same_tag 1 0 [] [] e in cc
source_tells source.Sent source.Sent e = refl
source_tells source.Sent (source.Slot k) e = let wrong = same_tag 1 2 [] (val.Int (pos k) ∷ []) e in cc
source_tells (source.Slot j) source.Received e = let wrong = same_tag 2 0 (val.Int (pos j) ∷ []) [] e in cc
source_tells (source.Slot j) source.Sent e = let wrong = same_tag 2 1 (val.Int (pos j) ∷ []) [] e in cc
source_tells (source.Slot j) (source.Slot k) e = ap source.Slot (same_number j k (same_rest 2 2 (val.Int (pos j) ∷ []) (val.Int (pos k) ∷ []) e))

same_parts : (s t : Source) (m n x y : Pattern) → s ≡ t → m ≡ n → x ≡ y → ◌≡◌ {A = LivePattern} (record { source = s; message = m; peer = x }) (record { source = t; message = n; peer = y })
same_parts s t m n x y one two three = cc

pub live_tells : (p q : LivePattern) → live_spelled p ≡ live_spelled q → p ≡ q
live_tells p q e =
    let parts : ◌≡◌ {A = List Val} (source_spelled p.source ∷ spelled p.message ∷ spelled p.peer ∷ []) (source_spelled q.source ∷ spelled q.message ∷ spelled q.peer ∷ []) = sym (parts_of-Tuple _) ∙ ap parts_of e ∙ parts_of-Tuple _ in
    let sources : source_spelled p.source ≡ source_spelled q.source = cc in
    let messages : spelled p.message ≡ spelled q.message = cc in
    let peers : spelled p.peer ≡ spelled q.peer = cc in
    same_parts p.source q.source p.message q.message p.peer q.peer (source_tells p.source q.source sources) (pattern_tells p.message q.message messages) (pattern_tells p.peer q.peer peers)

equal_from_test : (o : Ordering) → is_eq o ≡ true → o ≡ Equal
equal_from_test Less e = absurd (false≢true e)
equal_from_test Equal e = refl
equal_from_test Greater e = absurd (false≢true e)

pub one_from_test : (p q : LivePattern) → same_live p q ≡ true → p ≡ q
one_from_test p q e = live_tells p q (same_from_val_cmp (live_spelled p) (live_spelled q) (equal_from_test (val_cmp (live_spelled p) (live_spelled q)) e))

pub same_live-itself : (p : LivePattern) → same_live p p ≡ true
same_live-itself p = ap is_eq (tied_itself val_order (live_spelled p))

-- what is in the list of the first ones is in the list, and each there but once
abbrev other_than : LivePattern → LivePattern → Bool
other_than p q = not (same_live p q)

other_or_one : (p q : LivePattern) (b : Bool) → same_live p q ≡ b → (q ≡ p) ⊎ (other_than p q ≡ true)
other_or_one p q true e = inl (sym (one_from_test p q e))
other_or_one p q false e = inr (ap not e)

pub of_once : (ps : List LivePattern) (q : LivePattern) → Has (once ps) q → Has ps q
of_once [] q h = absurd h
of_once (p ∷ ps) q (inl e) = inl e
of_once (p ∷ ps) q (inr h) = inr (of_once ps q (of_filter (other_than p) (once ps) q h).0)

pub Has-once : (ps : List LivePattern) (q : LivePattern) → Has ps q → Has (once ps) q
Has-once [] q h = absurd h
Has-once (p ∷ ps) q (inl e) = inl e
Has-once (p ∷ ps) q (inr h) =
    elim (other_or_one p q (same_live p q) refl) [ inl e ↦ inl e | inr other ↦ inr (Has-filter (other_than p) (once ps) q (Has-once ps q h) other) ]

distinct_filter : (keeps : LivePattern → Bool) (ps : List LivePattern) → Distinct ps → Distinct (filter keeps ps)
distinct_filter keeps [] each = tt
distinct_filter keeps (p ∷ ps) each = go (keeps p) (distinct_filter keeps ps each.1)
  where
    go : (b : Bool) → Distinct (filter keeps ps) → Distinct (cond b (p ∷ filter keeps ps) (filter keeps ps))
    go true more = ((λ h. each.0 (of_filter keeps ps p h).0), more)
    go false more = more

not_its_own_other : (p : LivePattern) (ps : List LivePattern) → Has (filter (other_than p) ps) p → ⊥
not_its_own_other p ps h = false≢true (sym (ap not (same_live-itself p)) ∙ (of_filter (other_than p) ps p h).1)

pub once_distinct : (ps : List LivePattern) → Distinct (once ps)
once_distinct [] = tt
once_distinct (p ∷ ps) = (not_its_own_other p (once ps), distinct_filter (other_than p) (once ps) (once_distinct ps))

-- so it is with the live patterns of a class
pub live_distinct : (class : Class) → Distinct (live class)
live_distinct class = once_distinct (map live_gen (filter (λ g. is_history g.source) (class_gens class)))

pub live_from_gen : (class : Class) (g : RGen) → Has (class_gens class) g → is_history g.source ≡ true → Has (live class) (live_gen g)
live_from_gen class g h over =
    Has-once (map live_gen (filter (λ z. is_history z.source) (class_gens class))) (live_gen g)
    (Has-map live_gen (filter (λ z. is_history z.source) (class_gens class)) g (Has-filter (λ z. is_history z.source) (class_gens class) g h over))

pub gen_from_live : (class : Class) (p : LivePattern) → Has (live class) p → (g : RGen) × Has (class_gens class) g × (is_history g.source ≡ true) × (p ≡ live_gen g)
gen_from_live class p h =
    let (g, there, e) = of_map live_gen (filter (λ z. is_history z.source) (class_gens class)) p (of_once (map live_gen (filter (λ z. is_history z.source) (class_gens class))) p h) in
    let (among, over) = of_filter (λ (z : RGen). is_history z.source) (class_gens class) g there in
    (g, among, over, e)

-- a test that is true exactly of equal live patterns is this one
pub test_is : (p q : LivePattern) (b : Bool) → (b ≡ true) ↔ (p ≡ q) → b ≡ same_live p q
test_is p q b decides = go b (same_live p q) refl decides
  where
    go : (b c : Bool) → same_live p q ≡ c → (b ≡ true) ↔ (p ≡ q) → b ≡ c
    go true true e decides = refl
    go true false e decides = absurd (false≢true (sym e ∙ subst (λ z. same_live p z ≡ true) (decides.0 refl) (same_live-itself p)))
    go false true e decides = decides.1 (one_from_test p q e)
    go false false e decides = refl
