-- What a table holds of once a demand was put into it.
use Rattle.std.specs.Prelude.{◌≡◌, refl, ℕ, ◌≤◌, Bool, true, List, [], ◌∷◌, ◌++◌, length, Option, Some, None, is_some}
use Rattle.std.specs.List.{AllByRecursion}
use Rattle.std.proofs.Common.{◌∙◌, ap, ap₂, sym, subst, arith}
use Rattle.std.proofs.lemmas.Bool.{false≢true}
use Rattle.da_lang.specs.declared.ty.Ty.{Ty}
use Rattle.da_lang.specs.QueryTypes.{holds_of, is_typed}
use Rattle.da_lang.specs.Types.{same_type}
use Rattle.da_lang.proofs.typing.SameTypes.{same_types_equal, same_itself}
use Rattle.type_table.specs.declared.form.Form.{Form}
use Rattle.type_table.specs.declared.scheme.Scheme.{Scheme}
use Rattle.type_table.specs.Draws.{Agree, Numbered}
use Rattle.type_table.specs.Fits.{Meaning, IsTable, AreSame, AreWithin}
use Rattle.type_table.specs.Schemes.{stands, IsKnown}
use Rattle.type_table.proofs.AgreeLaws.{agree_then}
use Rattle.type_table.proofs.SchemeLaws.{stands_agree}
use Rattle.type_table.proofs.TableLaws.{same_both, same_prefix, same_back, within_both}
use Rattle.type_fitting.specs.declared.table.Kind.{Kind}
use Rattle.type_fitting.specs.declared.table.Note.{Note}
use Rattle.type_fitting.specs.declared.table.Table.{Table}
use Rattle.type_fitting.specs.Notes.{is_as, IsNoted, AreNoted, IsInside, IsSound, Puts}
use Rattle.type_fitting.proofs.ListLaws.{all_weaker, all_both, all_push, all_front, all_last, holds_some, is_there}

abbrev pub note_of : Kind → ℕ → Note
note_of kind number = record { kind = kind; number = number }

-- the same may be asked in other words
pub puts_as : (old new : Table) (asked other : Meaning → Bool) → ((m : Meaning) → other m ≡ asked m) → Puts old new asked → Puts old new other
puts_as old new asked other same p =
    record {
      sound = p.sound;
      grows = p.grows;
      gives = λ m h. ((p.gives m h).0, same m ∙ (p.gives m h).1);
      takes = λ m h is. p.takes m h (sym (same m) ∙ is);
    }

-- types that are there
both_typed : (o p : Option Ty) → holds_of o (is_typed p) ≡ true → (ty : Ty) × (o ≡ Some ty) × (p ≡ Some ty)
both_typed None p e = absurd (false≢true e)
both_typed (Some a) None e = absurd (false≢true e)
both_typed (Some a) (Some b) e = (a, refl, ap (λ z. Some z) (same_types_equal b a e))

typed_alike : (o p : Option Ty) (a b : Ty) → o ≡ Some a → p ≡ Some b → a ≡ b → holds_of o (is_typed p) ≡ true
typed_alike o p a b o_is p_is equal = ap₂ (λ y z. holds_of y (is_typed z)) o_is p_is ∙ ap (same_type b) equal ∙ same_itself b

module _ (old new : Table) (sound : IsSound old) where
  noted_agree : (m n : Meaning) → Agree (length old.forms) m n → AreNoted m old.notes → AreNoted n old.notes
  noted_agree m n agree noted =
      all_both (IsInside (length old.forms)) (IsNoted m) (IsNoted n) (λ note inside is. ap (is_as note.kind) (agree note.number inside) ∙ is) old.notes sound.notes noted

  larger_notes : (size : ℕ) → length old.forms ≤ size → AllByRecursion (IsInside size) old.notes
  larger_notes size le = all_weaker (IsInside (length old.forms)) (IsInside size) (λ note inside. omega (arith, le, inside)) old.notes sound.notes

  -- nothing was put
  pub nothing_put : (asked : Meaning → Bool) → ((m : Meaning) → asked m ≡ true) → Puts old old asked
  nothing_put asked is =
      record {
        sound = sound;
        grows = omega arith;
        gives = λ m h. (h, is m);
        takes = λ m h e. (m, (λ k below. refl), h);
      }

  -- a number with what is asked of it
  pub note_put : (x : Scheme) (kind : Kind) (number : ℕ) → Numbered old.forms old.equations new.forms new.equations (λ m. stands m x) number → new.notes ≡ old.notes ++ note_of kind number ∷ [] → Puts old new (λ m. holds_of (stands m x) (is_as kind))
  note_put x kind number d notes_are =
      record {
        sound = record {
          forms = d.draws.table;
          pairs = d.draws.pairs;
          notes = subst (AllByRecursion (IsInside (length new.forms))) (sym notes_are) (all_push (IsInside (length new.forms)) old.notes (note_of kind number) (larger_notes (length new.forms) d.draws.grows) d.within);
        };
        grows = d.draws.grows;
        gives = λ m h.
            let (fits, same, x_is) = d.draws.gives m h.fits h.same in
            let noted = subst (AreNoted m) notes_are h.noted in (
              record { fits = fits; same = same; noted = all_front (IsNoted m) old.notes (note_of kind number ∷ []) noted },
              ap (λ o. holds_of o (is_as kind)) x_is ∙ all_last (IsNoted m) old.notes (note_of kind number) noted,
            );
        takes = λ m h is.
            let (ty, x_is, passes) = holds_some (stands m x) (is_as kind) is in
            let (n, agree, fits, same, number_is) = d.draws.takes m ty h.fits h.same x_is in (
              n,
              agree,
              record {
                fits = fits;
                same = same;
                noted = subst (AreNoted n) (sym notes_are) (all_push (IsNoted n) old.notes (note_of kind number) (noted_agree m n agree h.noted) (ap (is_as kind) number_is ∙ passes));
              },
            );
      }

  -- a type that there must be
  pub there_put : (x : Scheme) (number : ℕ) → Numbered old.forms old.equations new.forms new.equations (λ m. stands m x) number → new.notes ≡ old.notes → Puts old new (λ m. is_some (stands m x))
  there_put x number d notes_are =
      record {
        sound = record {
          forms = d.draws.table;
          pairs = d.draws.pairs;
          notes = subst (AllByRecursion (IsInside (length new.forms))) (sym notes_are) (larger_notes (length new.forms) d.draws.grows);
        };
        grows = d.draws.grows;
        gives = λ m h. let (fits, same, x_is) = d.draws.gives m h.fits h.same in (record { fits = fits; same = same; noted = subst (AreNoted m) notes_are h.noted }, ap is_some x_is);
        takes = λ m h is.
            let (ty, x_is) = is_there (stands m x) is in
            let (n, agree, fits, same, number_is) = d.draws.takes m ty h.fits h.same x_is in
            (n, agree, record { fits = fits; same = same; noted = subst (AreNoted n) (sym notes_are) (noted_agree m n agree h.noted) });
      }

  -- two types that are the same
  pub same_put : (mids : List Form) (mid_pairs last_pairs : List (ℕ × ℕ)) (asked x : Scheme) (j k : ℕ) → IsKnown (length old.forms) x → Numbered old.forms old.equations mids mid_pairs (λ m. stands m asked) j
      → Numbered mids mid_pairs new.forms last_pairs (λ m. stands m x) k → new.equations ≡ last_pairs ++ (j, k) ∷ [] → new.notes ≡ old.notes → Puts old new (λ m. holds_of (stands m asked) (is_typed (stands m x)))
  same_put mids mid_pairs last_pairs asked x j k known first second pairs_are notes_are =
      record {
        sound = record {
          forms = second.draws.table;
          pairs = subst (AreWithin (length new.forms)) (sym pairs_are) (within_both (length new.forms) last_pairs ((j, k) ∷ []) second.draws.pairs (omega (arith, first.within, second.draws.grows), second.within, tt));
          notes = subst (AllByRecursion (IsInside (length new.forms))) (sym notes_are) (larger_notes (length new.forms) (omega (arith, first.draws.grows, second.draws.grows)));
        };
        grows = omega (arith, first.draws.grows, second.draws.grows);
        gives = λ m h.
            let pairs = subst (AreSame m) pairs_are h.same in
            let (fits, same, x_is) = second.draws.gives m h.fits (same_prefix m last_pairs ((j, k) ∷ []) pairs) in
            let (fits_old, same_old, asked_is) = first.draws.gives m fits same in
            let equal : m j ≡ m k = (same_back m last_pairs ((j, k) ∷ []) pairs).0 in
            (record { fits = fits_old; same = same_old; noted = subst (AreNoted m) notes_are h.noted }, typed_alike (stands m asked) (stands m x) (m j) (m k) asked_is x_is equal);
        takes = λ m h is.
            let (ty, asked_is, x_is) = both_typed (stands m asked) (stands m x) is in
            let (n, agree, fits, same, j_is) = first.draws.takes m ty h.fits h.same asked_is in
            let (o, further, fits_new, same_new, k_is) = second.draws.takes n ty fits same (stands_agree (length old.forms) m n agree x known ∙ x_is) in
            let agree_all : Agree (length old.forms) m o = agree_then (length old.forms) (length mids) m n o first.draws.grows agree further in
            let equal : o j ≡ o k = further j first.within ∙ j_is ∙ sym k_is in (
              o,
              agree_all,
              record {
                fits = fits_new;
                same = subst (AreSame o) (sym pairs_are) (same_both o last_pairs ((j, k) ∷ []) same_new (equal, tt));
                noted = subst (AreNoted o) (sym notes_are) (noted_agree m o agree_all h.noted);
              },
            );
      }

  -- as calls tell it
  pub note_puts : (x : Scheme) (kind : Kind) (number : ℕ) → IsKnown (length old.forms) x → (IsTable old.forms → AreWithin (length old.forms) old.equations → IsKnown (length old.forms) x → Numbered old.forms old.equations new.forms new.equations (λ m. stands m x) number)
      → new.notes ≡ old.notes ++ note_of kind number ∷ [] → Puts old new (λ m. holds_of (stands m x) (is_as kind))
  note_puts x kind number known call notes_are = note_put x kind number (call sound.forms sound.pairs known) notes_are

  pub there_puts : (x : Scheme) (number : ℕ) → IsKnown (length old.forms) x → (IsTable old.forms → AreWithin (length old.forms) old.equations → IsKnown (length old.forms) x → Numbered old.forms old.equations new.forms new.equations (λ m. stands m x) number)
      → new.notes ≡ old.notes → Puts old new (λ m. is_some (stands m x))
  there_puts x number known call notes_are = there_put x number (call sound.forms sound.pairs known) notes_are

  pub same_puts : (mids : List Form) (mid_pairs last_pairs : List (ℕ × ℕ)) (asked x : Scheme) (j k : ℕ) → IsKnown (length old.forms) asked → IsKnown (length old.forms) x
      → (IsTable old.forms → AreWithin (length old.forms) old.equations → IsKnown (length old.forms) asked → Numbered old.forms old.equations mids mid_pairs (λ m. stands m asked) j)
      → (IsTable mids → AreWithin (length mids) mid_pairs → IsKnown (length mids) x → Numbered mids mid_pairs new.forms last_pairs (λ m. stands m x) k) → new.equations ≡ last_pairs ++ (j, k) ∷ [] → new.notes ≡ old.notes
      → Puts old new (λ m. holds_of (stands m asked) (is_typed (stands m x)))
  same_puts mids mid_pairs last_pairs asked x j k asked_known known first second pairs_are notes_are =
      let one = first sound.forms sound.pairs asked_known in
      same_put mids mid_pairs last_pairs asked x j k known one (second one.draws.table one.draws.pairs (omega (arith, known, one.draws.grows))) pairs_are notes_are
