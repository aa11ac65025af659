-- What tokens say: so many of them spell something, besides one for each sign that is noted of it, and what is noted is fine.
use Rattle.std.specs.Prelude.{◌≡◌, refl, ℕ, zero, suc, pos, neg_ℤ, ◌+◌, ◌≤◌, nat_le, Bool, true, false, ◌&&◌, List, [], ◌∷◌, ◌++◌, map, length, Some, None, if◌then◌else◌}
use Rattle.std.specs.Char.{is_ascii_digit}
use Rattle.std.specs.Int.{w128}
use Rattle.std.specs.List.{All, list_all}
use Rattle.std.specs.Str.Parse.{digits_value}
use Rattle.std.proofs.Common.{◌∙◌, sym, subst, inl, inr, ⊎_elim, arith}
use Rattle.std.proofs.lemmas.Bool.{and_parts, leb-true, true≢false}
use Rattle.std.proofs.lemmas.Int.{fits_signed_from_abs}
use Rattle.std.proofs.lemmas.List.{append-nil}
use Rattle.std.proofs.lemmas.List.Elements.{All-cons, All-nil}
use Rattle.da_values.specs.declared.token.Mark.{Mark}
use Rattle.da_values.specs.declared.value.Value.TheVariants as kept
use Rattle.da_values.specs.Marks.{Tok}
use Rattle.da_values.specs.Piece.{in_quotes, is_plain, number_of, number_max}
use Rattle.da_values.specs.Proper.{IsValue}
use Rattle.da_values.specs.Sets.{Has}
use Rattle.da_values.specs.Str.{IsTextByte}
use Rattle.da_values.proofs.Members.{of_append}
use Rattle.da_lang.specs.Literals.{text_of, unquoted}
use Rattle.da_lang.specs.Spelling.{Spelling, Room, At, Opens, Named, Number, Quoted, Separated, Closed, EachAfter, Many, Ended}
use Rattle.da_lang.proofs.typing.ShapedAt.{has_processes-Bool, has_processes-Int, has_processes-Text}
use Rattle.da_types.specs.Constants.{Note, Literal, Notes, IsFine, all, signs}
use Rattle.da_types.proofs.resolved.NotesKept.{signs-append}

abbrev pub EachFine : Notes → Type 0
EachFine ns = (x : Note) → Has ns x → IsFine x

pub record Says (k : ℕ) (ns : Notes) (t r : List Tok) : Type 0 where
  pub size : k + signs ns + length r ≤ length t
  pub fine : EachFine ns

-- nothing is noted
none_fine : EachFine []
none_fine n h = absurd h

pub nothing : {t : List Tok} → Says 0 [] t t
nothing = record { size = omega arith; fine = none_fine }

pub token : {k : Mark} {t r : List Tok} → At k t r → Says 1 [] t r
token (At.at e) = record { size = omega arith; fine = none_fine }

pub opener : {k : Mark} {room : Room} {t r : List Tok} → Opens k room t r → Says 1 [] t r
opener (Opens.opens room a) = token a

pub name_says : {b : List ℕ} {t r : List Tok} → Named b t r → Says 1 [] t r
name_says (Named.named e) = record { size = omega arith; fine = none_fine }

-- one after the other; the notes of the first, or of the second, may be none
pub both : {j k : ℕ} {xs ys : Notes} {t r s : List Tok} → Says j xs t r → Says k ys r s → Says j (xs ++ ys) t s
both {j} {k} {xs} {ys} first second = record {
  size = omega (arith, first.size, second.size, signs-append xs ys);
  fine = λ n h. ⊎_elim (first.fine n) (second.fine n) (of_append _ _ n h);
}

pub after : {j k : ℕ} {ys : Notes} {t r s : List Tok} → Says j [] t r → Says k ys r s → Says j ys t s
after first second = both first second

pub until : {j k : ℕ} {xs : Notes} {t r s : List Tok} → Says j xs t r → Says k [] r s → Says j xs t s
until first second = record { size = omega (arith, first.size, second.size); fine = first.fine }

pub less : {j k : ℕ} {xs : Notes} {t r : List Tok} → j ≤ k → Says k xs t r → Says j xs t r
less few one = record { size = omega (arith, few, one.size); fine = one.fine }

pub noted : {k : ℕ} {xs ys : Notes} {t r : List Tok} → xs ≡ ys → Says k ys t r → Says k xs t r
noted {k} {xs} {ys} {t} {r} e one = subst (λ z. Says k z t r) (sym e) one

-- literals
pub fine_one : (x : Note) → IsFine x → EachFine (x ∷ [])
fine_one x good n (inl is) = subst IsFine (sym is) good
fine_one x good n (inr h) = absurd h

in_range : (digits : List ℕ) (n : ℕ) (b : Bool) → (if b && nat_le (digits_value 10 digits) number_max then Some (digits_value 10 digits) else None) ≡ Some n → n ≤ number_max
in_range digits n false e = absurd (cc)
in_range digits n true e = go (nat_le (digits_value 10 digits) number_max) refl e
  where
    go : (c : Bool) → nat_le (digits_value 10 digits) number_max ≡ c → (if c then Some (digits_value 10 digits) else None) ≡ Some n → n ≤ number_max
    go true le is = let same : digits_value 10 digits ≡ n = cc in subst (λ k. k ≤ number_max) same (leb-true _ _ le)
    go false le is = absurd (cc)

small_number : {n : ℕ} {t r : List Tok} → Number n t r → n ≤ number_max
unfolding number_of
small_number {n} (Number.number {t} e is) = in_range t.text n (list_all is_ascii_digit t.text) is

pub number_value : (n : ℕ) → n ≤ number_max → IsFine (Literal (kept.Int (pos n)))
number_value n few = record { proper = IsValue.integer (pos n) (fits_signed_from_abs w128 (pos n) (omega (arith, few))); free = λ most. has_processes-Int most (pos n) }

pub negative_value : (n : ℕ) → n ≤ number_max → IsFine (Literal (kept.Int (neg_ℤ (pos n))))
negative_value zero few = number_value 0 few
negative_value (suc n) few = record { proper = IsValue.integer (neg_ℤ (pos (suc n))) (fits_signed_from_abs w128 (neg_ℤ (pos (suc n))) (omega (arith, few))); free = λ most. has_processes-Int most (neg_ℤ (pos (suc n))) }

pub number_says : {n : ℕ} {t r : List Tok} → Number n t r → Says 1 (Literal (kept.Int (pos n)) ∷ []) t r
number_says {n} h = record { size = number_size h; fine = fine_one (Literal (kept.Int (pos n))) (number_value n (small_number h)) }
  where
    number_size : {n : ℕ} {t r : List Tok} → Number n t r → 1 + length r ≤ length t
    number_size (Number.number e is) = omega arith

pub negative_says : {n : ℕ} {t r : List Tok} → Number n t r → Says 1 (Literal (kept.Int (neg_ℤ (pos n))) ∷ []) t r
negative_says {n} h = record { size = (number_says h).size; fine = fine_one (Literal (kept.Int (neg_ℤ (pos n)))) (negative_value n (small_number h)) }

text_byte : (b : ℕ) → in_quotes b ≡ true → IsTextByte b
text_byte b e =
    let (plain, differs) = and_parts (is_plain b) _ e in
    let (low, high) = and_parts (nat_le 32 b) (nat_le b 126) plain in
    (leb-true 32 b low, leb-true b 126 high, λ is. absurd (true≢false (sym differs ∙ rw is refl)))

text_bytes : (bs : List ℕ) → list_all in_quotes bs ≡ true → All IsTextByte bs
text_bytes [] e = All-nil IsTextByte
text_bytes (b ∷ bs) e = let both = and_parts (in_quotes b) (list_all in_quotes bs) e in All-cons IsTextByte b bs (text_byte b both.0) (text_bytes bs both.1)

text_fine : (bytes b : List ℕ) → text_of bytes ≡ Some b → IsFine (Literal (kept.Text b))
unfolding text_of
text_fine bytes b e = go (list_all in_quotes (unquoted bytes)) refl e
  where
    go : (c : Bool) → list_all in_quotes (unquoted bytes) ≡ c → (if c then Some (unquoted bytes) else None) ≡ Some b → IsFine (Literal (kept.Text b))
    go true each is = let same : unquoted bytes ≡ b = cc in subst (λ z. IsFine (Literal (kept.Text z))) same (record { proper = IsValue.text (unquoted bytes) (text_bytes (unquoted bytes) each); free = λ most. has_processes-Text most (unquoted bytes) })
    go false each is = absurd (cc)

pub text_says : {b : List ℕ} {t r : List Tok} → Quoted b t r → Says 1 (Literal (kept.Text b) ∷ []) t r
text_says {b} (Quoted.quoted e is) = record { size = omega arith; fine = fine_one (Literal (kept.Text b)) (text_fine _ b is) }

pub truth_says : {k : Mark} {t r : List Tok} (b : Bool) → At k t r → Says 1 (Literal (kept.Bool b) ∷ []) t r
truth_says b h = record { size = (token h).size; fine = fine_one (Literal (kept.Bool b)) (record { proper = IsValue.truth b; free = λ most. has_processes-Bool most b }) }

-- lists
module _ {A : Type 0} (noting : A → Notes) (Item : Spelling A) (says : (x : A) (t r : List Tok) → Item x t r → Says 1 (noting x) t r) where
  pub separated_says : {k : Mark} {xs : List A} {t r : List Tok} → Separated k Item xs t r → Says 1 (all (map noting xs)) t r
  separated_says (Separated.last h) = noted (append-nil _) (says _ _ _ h)
  separated_says (Separated.more h comma others) = both (says _ _ _ h) (after (token comma) (separated_says others))

  pub closed_says : {k : Mark} {xs : List A} {t r : List Tok} → Closed k Item xs t r → Says 1 (all (map noting xs)) t r
  closed_says (Closed.empty h) = token h
  closed_says (Closed.full hs over) = until (separated_says hs) (token over)

  pub after_says : {k : Mark} {xs : List A} {t r : List Tok} → EachAfter k Item xs t r → Says 0 (all (map noting xs)) t r
  after_says EachAfter.none = nothing
  after_says (EachAfter.one comma h others) = less (omega arith) (after (token comma) (both (says _ _ _ h) (after_says others)))

  pub many_says : {xs : List A} {t r : List Tok} → Many Item xs t r → Says 0 (all (map noting xs)) t r
  many_says Many.none = nothing
  many_says (Many.one h others) = less (omega arith) (both (says _ _ _ h) (many_says others))

  pub ended_says : {xs : List A} {t r : List Tok} → Ended Item xs t r → Says 1 (all (map noting xs)) t r
  ended_says (Ended.ends h over) = noted (append-nil _) (until (says _ _ _ h) (token over))
  ended_says (Ended.goes_on h others) = both (says _ _ _ h) (ended_says others)
