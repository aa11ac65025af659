-- The types of a table in which all is forced and filled.
use Rattle.std.specs.Prelude.{◌≡◌, refl, ℕ, zero, suc, ◌<◌, ◌≤◌, ◌⊎◌, true, false, List, map, length, Some, slice_get}
use Rattle.std.specs.List.{list_all}
use Rattle.std.proofs.Common.{inl, inr, ◌∙◌, ap, sym, subst, arith}
use Rattle.std.proofs.lemmas.Bool.{false≢true}
use Rattle.da_lang.specs.declared.ty.Ty.TheVariants as t
use Rattle.da_lang.specs.declared.ty.Ty.TheOpen as layer
use Rattle.type_table.specs.declared.form.Form.{Form}
use Rattle.type_table.specs.declared.form.Form.TheVariants as f
use Rattle.type_table.specs.Fits.{Meaning, Fits, IsTable}
use Rattle.type_table.specs.Values.{built_at, types_in, types_of}
use Rattle.type_table.proofs.TableLaws.{get_inside}
use Rattle.type_choice.specs.Choice.{AreInside, Meets, Chosen, is_added, is_recipient}
use Rattle.type_choice.specs.Lean.{IsLean}
use Rattle.type_choice.specs.Marks.{FilledAt, Filled}
use Rattle.type_choice.specs.Roots.{root_of, passes, test_at, may_add, may_receive, Forced, IsReady, IsEasy}
use Rattle.type_choice.proofs.ListLaws.{all_at, all_from, there, test_at as tested, none_fails, get_map, map_get}
use Rattle.type_choice.proofs.TypeLaws.{added_at, received_at, proc_received, set_received, int_added, set_added, set_no_proc}
use Rattle.type_choice.proofs.EndLaws.{end_same, end_inside, end_last}
use Rattle.type_choice.proofs.FillLaws.{filled_back}
use Rattle.type_choice.proofs.LeanLaws.{round_lean}
use Rattle.type_choice.proofs.RoundLaws.{filled_fits_some}
use Rattle.type_choice.proofs.StartLaws.{with_both, extended, extended_same, extended_all, extended_fits, base_back}

open_int : (forms : List Form) (rounds k : ℕ) → slice_get forms k ≡ Some f.Open → types_in forms rounds k ≡ t.Int
open_int forms zero k e = refl
open_int forms (suc rounds) k e = ap (built_at (types_in forms rounds)) e

-- a number that stands for the same type as the one where its way ends
module _ (now : List Form) (table : IsTable now) (m : Meaning) (fits : Fits m now) (k : ℕ) (inside : k < length now) where
  abbrev r : ℕ
  r = root_of now k

  ends : m k ≡ m r
  ends = end_same now m fits k k

  pub added_passes : is_added (m k) ≡ true → passes may_add now k ≡ true
  added_passes added = let (x, at) = there now r (end_inside now table k k inside) in ap (test_at may_add) at ∙ go x at
    where
      go : (x : Form) → slice_get now r ≡ Some x → may_add x ≡ true
      go f.Open at = refl
      go f.Int at = refl
      go (f.Set e) at = refl
      go (f.Same j) at = absurd (end_last now table k k (omega arith) j at)
      go f.Bool at = sym (added_at (m k) t.Bool layer.Bool (ends ∙ fits r f.Bool at) t.outs-Bool) ∙ added
      go f.Text at = sym (added_at (m k) t.Text layer.Text (ends ∙ fits r f.Text at) t.outs-Text) ∙ added
      go f.Proc at = sym (added_at (m k) t.Proc layer.Proc (ends ∙ fits r f.Proc at) t.outs-Proc) ∙ added
      go (f.Tuple ks) at = sym (added_at (m k) (t.Tuple (map m ks)) (layer.Tuple (map m ks)) (ends ∙ fits r (f.Tuple ks) at) (t.outs-Tuple (map m ks))) ∙ added

  pub received_passes : is_recipient (m k) ≡ true → passes may_receive now k ≡ true
  received_passes received = let (x, at) = there now r (end_inside now table k k inside) in ap (test_at may_receive) at ∙ go x at
    where
      go : (x : Form) → slice_get now r ≡ Some x → may_receive x ≡ true
      go f.Open at = refl
      go f.Proc at = refl
      go (f.Set e) at = refl
      go (f.Same j) at = absurd (end_last now table k k (omega arith) j at)
      go f.Bool at = sym (received_at (m k) t.Bool layer.Bool (ends ∙ fits r f.Bool at) t.outs-Bool) ∙ received
      go f.Text at = sym (received_at (m k) t.Text layer.Text (ends ∙ fits r f.Text at) t.outs-Text) ∙ received
      go f.Int at = sym (received_at (m k) t.Int layer.Int (ends ∙ fits r f.Int at) t.outs-Int) ∙ received
      go (f.Tuple ks) at = sym (received_at (m k) (t.Tuple (map m ks)) (layer.Tuple (map m ks)) (ends ∙ fits r (f.Tuple ks) at) (t.outs-Tuple (map m ks))) ∙ received

module _ (old : List Form) (adds receives : List ℕ) (table : IsTable old) (adds_in : AreInside (length old) adds) (receives_in : AreInside (length old) receives) (now : List Form) (forced : Forced (with_both old) adds receives now) (larger : length old ≤ length now) where
  add_inside : (i k : ℕ) → slice_get adds i ≡ Some k → k < length now
  add_inside i k at = omega (arith, larger, all_at (λ j. j < length old) adds i k adds_in at)

  receive_inside : (i k : ℕ) → slice_get receives i ≡ Some k → k < length now
  receive_inside i k at = omega (arith, larger, all_at (λ j. j < length old) receives i k receives_in at)

  still : (m : Meaning) → Meets old adds receives m → Fits (extended old m) now
  still m meets =
      forced.keeps (extended old m) (extended_fits old table m meets.fits) (extended_all old is_added m adds adds_in meets.added) (extended_all old is_recipient m receives receives_in meets.received)

  -- a form that no type has that may be added, or sent to
  pub add_fails : list_all (passes may_add now) adds ≡ false → (m : Meaning) → Meets old adds receives m → ⊥
  add_fails fails m meets =
      none_fails (λ k. is_added (extended old m k) ≡ true) (passes may_add now) adds (extended_all old is_added m adds adds_in meets.added)
      (λ i k at. added_passes now forced.table (extended old m) (still m meets) k (add_inside i k at)) fails

  pub receive_fails : list_all (passes may_receive now) receives ≡ false → (m : Meaning) → Meets old adds receives m → ⊥
  receive_fails fails m meets =
      none_fails (λ k. is_recipient (extended old m k) ≡ true) (passes may_receive now) receives (extended_all old is_recipient m receives receives_in meets.received)
      (λ i k at. received_passes now forced.table (extended old m) (still m meets) k (receive_inside i k at)) fails

  module _ (count : ℕ) (new : List Form) (filled : Filled now (map (root_of now) receives) count new) where
    abbrev roots : List ℕ
    roots = map (root_of now) receives

    -- no types for the table that was filled
    pub circle_fails : ((m : Meaning) → Fits m new → ⊥) → (m : Meaning) → Meets old adds receives m → ⊥
    circle_fails none m meets =
        let (n, fits) = filled_fits_some now roots new filled.each filled.size forced.table (extended old m) (still m meets) in
        none n fits

    module _ (whole : count ≡ length roots) (ready : IsReady now adds receives) (adds_pass : list_all (passes may_add now) adds ≡ true) (receives_pass : list_all (passes may_receive now) receives ≡ true) (v_new : Fits (types_of new) new) where
      abbrev v : Meaning
      v = types_of new

      v_now : Fits v now
      v_now = filled_back now roots count new filled v v_new

      received : (i k : ℕ) → slice_get receives i ≡ Some k → is_recipient (v k) ≡ true
      received i k at = elim (ready i k at) [
        | inl told ↦ set_received (v k) (told v v_now)
        | inr easy ↦ let (x, there_is) = there now (root_of now k) (end_inside now forced.table k k (receive_inside i k at)) in go easy x there_is
      ]
        where
          ends_there : v k ≡ v (root_of now k)
          ends_there = end_same now v v_now k k

          root_at : slice_get roots i ≡ Some (root_of now k)
          root_at = get_map (root_of now) receives i k at

          refused : (x : Form) → slice_get now (root_of now k) ≡ Some x → may_receive x ≡ false → is_recipient (v k) ≡ true
          refused x e never = absurd (false≢true (sym never ∙ sym (ap (test_at may_receive) e) ∙ tested (passes may_receive now) receives i k receives_pass at))

          go : IsEasy now adds k → (x : Form) → slice_get now (root_of now k) ≡ Some x → is_recipient (v k) ≡ true
          go easy f.Open e = proc_received (v k) (ends_there ∙ v_new (root_of now k) f.Proc (filled.done i (root_of now k) (let inside : i < length roots = get_inside roots i (root_of now k) root_at in omega (arith, inside, whole)) root_at e))
          go easy f.Proc e = proc_received (v k) (ends_there ∙ v_now (root_of now k) f.Proc e)
          go easy (f.Set element) e = absurd (easy.no_set element e)
          go easy (f.Same j) e = absurd (end_last now forced.table k k (omega arith) j e)
          go easy f.Int e = refused f.Int e refl
          go easy f.Bool e = refused f.Bool e refl
          go easy f.Text e = refused f.Text e refl
          go easy (f.Tuple ks) e = refused (f.Tuple ks) e refl

      added : (i k : ℕ) → slice_get adds i ≡ Some k → is_added (v k) ≡ true
      added i k at = let (x, there_is) = there now (root_of now k) (end_inside now forced.table k k (add_inside i k at)) in go x there_is
        where
          ends_there : v k ≡ v (root_of now k)
          ends_there = end_same now v v_now k k

          refused : (x : Form) → slice_get now (root_of now k) ≡ Some x → may_add x ≡ false → is_added (v k) ≡ true
          refused x e never = absurd (false≢true (sym never ∙ sym (ap (test_at may_add) e) ∙ tested (passes may_add now) adds i k adds_pass at))

          -- what was filled is sent to, and no number that is added is the same
          clash : (place j : ℕ) → slice_get receives place ≡ Some j → root_of now j ≡ root_of now k → v (root_of now k) ≡ t.Proc → slice_get now (root_of now k) ≡ Some f.Open → ⊥
          clash place j there_is same proc unset =
              elim (ready place j there_is) [
                | inl told ↦ set_no_proc t.Proc (sym (told v v_now) ∙ end_same now v v_now j j ∙ ap v same ∙ proc)
                | inr easy ↦ easy.apart (ap (slice_get now) same ∙ unset) i k at (sym same)
              ]

          filled_open : slice_get now (root_of now k) ≡ Some f.Open → ((slice_get new (root_of now k) ≡ slice_get now (root_of now k)) ⊎ FilledAt now roots new (root_of now k)) → is_added (v k) ≡ true
          filled_open e (inl same) = int_added (v k) (ends_there ∙ open_int new (length new) (root_of now k) (same ∙ e))
          filled_open e (inr here) =
              let (j, there_is, same) = map_get (root_of now) receives here.place (root_of now k) here.is in
              absurd (clash here.place j there_is same (v_new (root_of now k) f.Proc here.after) e)

          go : (x : Form) → slice_get now (root_of now k) ≡ Some x → is_added (v k) ≡ true
          go f.Open e = filled_open e (filled.each (root_of now k))
          go f.Int e = int_added (v k) (ends_there ∙ v_now (root_of now k) f.Int e)
          go (f.Set element) e = set_added (v k) (v element) (ends_there ∙ v_now (root_of now k) (f.Set element) e)
          go (f.Same j) e = absurd (end_last now forced.table k k (omega arith) j e)
          go f.Proc e = refused f.Proc e refl
          go f.Bool e = refused f.Bool e refl
          go f.Text e = refused f.Text e refl
          go (f.Tuple ks) e = refused (f.Tuple ks) e refl

      -- what is filled is sent to, so it is no integer
      no_int : (m : Meaning) → Meets old adds receives m → (k : ℕ) → FilledAt now roots new k → extended old m k ≡ t.Int → ⊥
      no_int m meets k here int_is =
          let (j, there_is, same) = map_get (root_of now) receives here.place k here.is in
          false≢true
          (sym (received_at (extended old m j) t.Int layer.Int (end_same now (extended old m) (still m meets) j j ∙ ap (extended old m) same ∙ int_is) t.outs-Int)
          ∙ all_at (λ i. is_recipient (extended old m i) ≡ true) receives here.place j (extended_all old is_recipient m receives receives_in meets.received) there_is)

      pub chosen : Chosen old adds receives (types_of new)
      chosen =
          record {
            meets = record {
              fits = base_back old v (forced.gives v v_now);
              added = all_from (λ k. is_added (v k) ≡ true) adds added;
              received = all_from (λ k. is_recipient (v k) ≡ true) receives received;
            };
            lean = λ m meets k inside. subst (IsLean (v k)) (extended_same old m k inside) (round_lean now roots new filled.each (extended old m) (still m meets) (no_int m meets) (length new) k);
          }
