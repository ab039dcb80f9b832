-- The bytes and the numbered lines of a reply, one after the other.
use Rattle.std.proofs.Common.{◌≡◌, ℕ, zero, suc, ◌+◌, ◌%◌, ◌^◌, ◌<◌, ◌≤◌, List, [], ◌∷◌, ◌++◌, length, get_or, drop, refl, ap, sym, ◌∙◌, arith, append_assoc, codes}
use Rattle.std.specs.Prelude.{flat_map}
use Rattle.std.proofs.lemmas.List.{drop_more}
use Rattle.wb_text.specs.Text.{byte_text, line, numbered}
use Rattle.wb_text.specs.Reply.{bytes_text}

pub bytes_text-none : (bytes : List ℕ) → length bytes ≡ 0 → bytes_text bytes ≡ codes "none"
unfolding bytes_text
bytes_text-none [] none = refl
bytes_text-none (byte ∷ bytes) none = absurd (omega (arith, none))

pub bytes_text-some : (bytes : List ℕ) → 0 < length bytes → bytes_text bytes ≡ flat_map byte_text bytes
unfolding bytes_text
bytes_text-some [] some = absurd (omega (arith, some))
bytes_text-some (byte ∷ bytes) some = refl

pub numbered-end : {A : Type 0} (text : ℕ → A → List ℕ) (number : ℕ) (items : List A) (i : ℕ) → length items ≤ i → numbered text number (drop i items) ≡ []
unfolding numbered
numbered-end text number [] zero past = refl
numbered-end text number [] (suc i) past = refl
numbered-end text number (item ∷ items) zero past = absurd (omega (arith, past))
numbered-end text number (item ∷ items) (suc i) past = numbered-end text number items i (omega (arith, past))

numbered-cons : {A : Type 0} (text : ℕ → A → List ℕ) (number : ℕ) (item : A) (items : List A)
    → numbered text number (item ∷ items) ≡ line (text number item) ++ numbered text ((number + 1) % 2 ^ 64) items
unfolding numbered
numbered-cons text number item items = refl

numbered-more : {A : Type 0} (text : ℕ → A → List ℕ) (number : ℕ) (items : List A) (i : ℕ) (item : A) → i < length items → item ≡ get_or items i item
    → numbered text number (drop i items) ≡ line (text number item) ++ numbered text ((number + 1) % 2 ^ 64) (drop (i + 1) items)
numbered-more text number items i item inside is =
    let later = drop (i + 1) items in
    ap (numbered text number) (drop_more items i item inside)
    ∙ (numbered-cons text number (get_or items i item) later
    ∙ ap (λ e. line (text number e) ++ numbered text ((number + 1) % 2 ^ 64) later) (sym is))

-- what is shown with one more line
pub numbered-on : {A : Type 0} (text : ℕ → A → List ℕ) (number : ℕ) (items : List A) (i : ℕ) (shown whole : List ℕ) (item : A) → i < length items → item ≡ get_or items i item
    → shown ++ numbered text number (drop i items) ≡ whole
    → (shown ++ line (text number item)) ++ numbered text ((number + 1) % 2 ^ 64) (drop (i + 1) items) ≡ whole
numbered-on text number items i shown whole item inside is so_far =
    append_assoc shown _ _ ∙ (ap (λ t. shown ++ t) (sym (numbered-more text number items i item inside is)) ∙ so_far)
