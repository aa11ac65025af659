-- What a packet carries, by what stands in it, is what is asked of its value as a whole.
use Rattle.std.specs.Prelude.{◌≡◌, ℕ, ℤ, pos, negsuc, ◌-◌, ◌^◌, ◌≤◌, ◌&&◌, nat_le, Bool, true, IsTrue, FitsSigned, List, [], ◌∷◌, length, map, refl}
use Rattle.std.specs.Int.{w64}
use Rattle.std.specs.List.{AllByRecursion, list_all}
use Rattle.std.proofs.Common.{◌∙◌, sym, arith}
use Rattle.std.proofs.lemmas.Bool.{and_from, and_parts, le-leb, leb-true, lt-ltb, ltb-true}
use Rattle.std.proofs.lemmas.List.{length-map}
use Rattle.std.proofs.lemmas.List.Folds.{list_all-map}
use Rattle.da_values.specs.declared.val.Val.{Val}
use Rattle.da_values.specs.declared.value.Value.{Value}
use Rattle.da_values.specs.declared.value.Value.TheVariants as kept
use Rattle.da_values.specs.Layer.{fold-val_of}
use Rattle.da_values.specs.Narrow.{is_i64, is_narrow}
use Rattle.da_values.specs.Nesting.{deepest, nesting}
use Rattle.da_values.specs.Proper.{IsValue, AreValues, integer, truth, text, process, tuple, set, none, more}
use Rattle.da_values.specs.Value.{val_of}
use Rattle.da_values.proofs.FoldsAt.{is_narrow_of, nesting_of}
use Rattle.da_values.proofs.Induction.{val_induction}
use Rattle.da_values.proofs.ReadLaws.{proper_at}
use Rattle.msg_codec.specs.Packets.{IsPacket, few_step, has_few_parts}
use Rattle.msg_codec.specs.Pieces.{Carries}
use Rattle.msg_codec.proofs.PieceLaws.{carried_layer, layer_carried}

-- INTEGERS AND TUPLES

pub fits_of_i64 : (z : ℤ) → is_i64 z ≡ true → FitsSigned w64 z
fits_of_i64 (pos n) small = record { sfits = ltb-true n (2 ^ 63) small }
fits_of_i64 (negsuc n) small = record { sfits = ltb-true n (2 ^ 63) small }

pub i64_of_fits : (z : ℤ) → FitsSigned w64 z → is_i64 z ≡ true
i64_of_fits (pos n) fits = lt-ltb n (2 ^ 63) fits.sfits
i64_of_fits (negsuc n) fits = lt-ltb n (2 ^ 63) fits.sfits

abbrev pub few_at : Value → Bool
few_at (kept.Tuple parts) = nat_le (length parts) 255 && list_all has_few_parts parts
few_at (kept.Set elements) = list_all has_few_parts elements
few_at _ = true

pub has_few_of : (v : Value) → has_few_parts (val_of v) ≡ few_at v
has_few_of (kept.Int number) = fold-val_of Bool few_step (kept.Int number)
has_few_of (kept.Bool b) = fold-val_of Bool few_step (kept.Bool b)
has_few_of (kept.Text bytes) = fold-val_of Bool few_step (kept.Text bytes)
has_few_of (kept.Proc p) = fold-val_of Bool few_step (kept.Proc p)
has_few_of (kept.Tuple parts) =
    fold-val_of Bool few_step (kept.Tuple parts) ∙ (λ i. nat_le (length-map parts has_few_parts i) 255 && list_all-map (λ few. few) has_few_parts parts i)
has_few_of (kept.Set elements) = fold-val_of Bool few_step (kept.Set elements) ∙ list_all-map (λ few. few) has_few_parts elements

-- FROM THE WHOLE TO ITS PARTS

abbrev IsCarried : Val → Type 0
IsCarried x = (depth : ℕ) → IsValue x → IsTrue (is_narrow x) → IsTrue (has_few_parts x) → nesting x ≤ depth → Carries depth x

each_carried : (depth : ℕ) (xs : List Val) → AllByRecursion IsCarried xs → AreValues xs → IsTrue (list_all is_narrow xs) → IsTrue (list_all has_few_parts xs) → deepest (map nesting xs) ≤ depth → AllByRecursion (Carries depth) xs
each_carried depth [] each proper narrow few nested = tt
each_carried depth (x ∷ xs) each (more _ _ here others) narrow few nested =
    let narrows = and_parts (is_narrow x) (list_all is_narrow xs) narrow in
    let fews = and_parts (has_few_parts x) (list_all has_few_parts xs) few in
    (each.0 depth here narrows.0 fews.0 (omega (arith, nested)), each_carried depth xs each.1 others narrows.1 fews.1 (omega (arith, nested)))

pub carries_of : (x : Val) (depth : ℕ) → IsValue x → IsTrue (is_narrow x) → IsTrue (has_few_parts x) → nesting x ≤ depth → Carries depth x
carries_of =
    val_induction IsCarried
    (λ number depth proper narrow few nested. layer_carried depth (kept.Int number) (fits_of_i64 number (sym (is_narrow_of (kept.Int number)) ∙ narrow)))
    (λ b depth proper narrow few nested. layer_carried depth (kept.Bool b) tt)
    (λ bytes depth proper narrow few nested. layer_carried depth (kept.Text bytes) (proper_at (kept.Text bytes) proper))
    (λ p depth proper narrow few nested. layer_carried depth (kept.Proc p) (proper_at (kept.Proc p) proper))
    (λ parts each depth proper narrow few nested.
    let counts = and_parts (nat_le (length parts) 255) (list_all has_few_parts parts) (sym (has_few_of (kept.Tuple parts)) ∙ few) in
    let deep = nesting_of (kept.Tuple parts) in
    let narrows = sym (is_narrow_of (kept.Tuple parts)) ∙ narrow in
    layer_carried depth (kept.Tuple parts) (
      leb-true (length parts) 255 counts.0,
      (omega (arith, nested, deep), each_carried (depth - 1) parts each (proper_at (kept.Tuple parts) proper) narrows counts.1 (omega (arith, nested, deep))),
    ))
    (λ elements each depth proper narrow few nested.
    let fews = sym (has_few_of (kept.Set elements)) ∙ few in
    let deep = nesting_of (kept.Set elements) in
    let narrows = sym (is_narrow_of (kept.Set elements)) ∙ narrow in
    let sorted = proper_at (kept.Set elements) proper in
    layer_carried depth (kept.Set elements) (
      sorted.1,
      (omega (arith, nested, deep), each_carried (depth - 1) elements each sorted.0 narrows fews (omega (arith, nested, deep))),
    ))

pub packet_carries : (s c : ℕ) (v : Val) (bytes : List ℕ) → IsPacket s c v bytes → Carries 32 v
packet_carries s c v bytes packet = carries_of v 32 packet.proper packet.narrow packet.few_parts packet.nested

-- FROM THE PARTS TO THE WHOLE

pub record IsAsked (depth : ℕ) (x : Val) : Type 0 where
  pub proper : IsValue x
  pub narrow : IsTrue (is_narrow x)
  pub few_parts : IsTrue (has_few_parts x)
  pub nested : nesting x ≤ depth

record AreAsked (depth : ℕ) (xs : List Val) : Type 0 where
  pub proper : AreValues xs
  pub narrow : IsTrue (list_all is_narrow xs)
  pub few_parts : IsTrue (list_all has_few_parts xs)
  pub nested : deepest (map nesting xs) ≤ depth

each_asked : (depth : ℕ) (xs : List Val) → AllByRecursion (λ x. (d : ℕ) → Carries d x → IsAsked d x) xs → AllByRecursion (Carries depth) xs → AreAsked depth xs
each_asked depth [] each carried = record { proper = none; narrow = refl; few_parts = refl; nested = omega arith }
each_asked depth (x ∷ xs) each carried =
    let here = each.0 depth carried.0 in
    let others = each_asked depth xs each.1 carried.1 in
    record {
      proper = more x xs here.proper others.proper;
      narrow = and_from (is_narrow x) (list_all is_narrow xs) here.narrow others.narrow;
      few_parts = and_from (has_few_parts x) (list_all has_few_parts xs) here.few_parts others.few_parts;
      nested = omega (arith, here.nested, others.nested);
    }

pub asked : (x : Val) (depth : ℕ) → Carries depth x → IsAsked depth x
asked =
    val_induction (λ x. (d : ℕ) → Carries d x → IsAsked d x)
    (λ number d carries.
    let fits = carried_layer d (kept.Int number) carries in
    record {
      proper = integer number (record { sfits = omega (arith, fits.sfits) });
      narrow = is_narrow_of (kept.Int number) ∙ i64_of_fits number fits;
      few_parts = has_few_of (kept.Int number);
      nested = omega (arith, nesting_of (kept.Int number));
    })
    (λ b d carries. record {
      proper = truth b;
      narrow = is_narrow_of (kept.Bool b);
      few_parts = has_few_of (kept.Bool b);
      nested = omega (arith, nesting_of (kept.Bool b));
    })
    (λ bytes d carries. record {
      proper = text bytes (carried_layer d (kept.Text bytes) carries);
      narrow = is_narrow_of (kept.Text bytes);
      few_parts = has_few_of (kept.Text bytes);
      nested = omega (arith, nesting_of (kept.Text bytes));
    })
    (λ p d carries.
    let there = carried_layer d (kept.Proc p) carries in
    record {
      proper = process p there.0 there.1;
      narrow = is_narrow_of (kept.Proc p);
      few_parts = has_few_of (kept.Proc p);
      nested = omega (arith, nesting_of (kept.Proc p));
    })
    (λ parts each d carries.
    let there = carried_layer d (kept.Tuple parts) carries in
    let inside = each_asked (d - 1) parts each there.1.1 in
    record {
      proper = tuple parts inside.proper;
      narrow = is_narrow_of (kept.Tuple parts) ∙ inside.narrow;
      few_parts = has_few_of (kept.Tuple parts) ∙ and_from (nat_le (length parts) 255) (list_all has_few_parts parts) (le-leb (length parts) 255 there.0) inside.few_parts;
      nested = omega (arith, nesting_of (kept.Tuple parts), inside.nested, there.1.0);
    })
    (λ elements each d carries.
    let there = carried_layer d (kept.Set elements) carries in
    let inside = each_asked (d - 1) elements each there.1.1 in
    record {
      proper = set elements inside.proper there.0;
      narrow = is_narrow_of (kept.Set elements) ∙ inside.narrow;
      few_parts = has_few_of (kept.Set elements) ∙ inside.few_parts;
      nested = omega (arith, nesting_of (kept.Set elements), inside.nested, there.1.0);
    })
