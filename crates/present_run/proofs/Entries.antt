-- Entries with each value read by a function: a test of the keys finds, takes out and keeps the same ones.
use Rattle.std.proofs.Common.{◌≡◌, ◌-◌, Bool, true, false, cond, List, [], ◌∷◌, map, take, option_map, Option, Some, None, refl, sym, ap, ◌∙◌}
use Rattle.std.proofs.lemmas.List.{take-map}
use Rattle.std.specs.Option.{option_map_or}
use Rattle.std.specs.Map.{keys_of, lookup_entry, remove_entry}
use Rattle.lru.specs.LruCache.{LruCache, promoted, put_entries}

module _ {K V W : Type 0} (f : V → W) where
  abbrev pub shown : List (K × V) → List (K × W)
  shown es = map (λ e. (e.0, f e.1)) es

  pub keys-shown : (es : List (K × V)) → keys_of (shown es) ≡ keys_of es
  keys-shown [] = refl
  keys-shown (e ∷ es) = ap (λ ks. e.0 ∷ ks) (keys-shown es)

  module _ (test : K → Bool) where
    pub lookup_entry-shown : (es : List (K × V)) → lookup_entry test (shown es) ≡ option_map (λ e. (e.0, f e.1)) (lookup_entry test es)
    lookup_entry-shown [] = refl
    lookup_entry-shown (e ∷ es) = elim (test e.0) as (λ y. cond y (Some (e.0, f e.1)) (lookup_entry test (shown es)) ≡ option_map (λ e. (e.0, f e.1)) (cond y (Some e) (lookup_entry test es))) [
      | true ↦ refl
      | false ↦ lookup_entry-shown es
    ]

    pub remove_entry-shown : (es : List (K × V)) → remove_entry test (shown es) ≡ shown (remove_entry test es)
    remove_entry-shown [] = refl
    remove_entry-shown (e ∷ es) = elim (test e.0) as (λ y. cond y (shown es) ((e.0, f e.1) ∷ remove_entry test (shown es)) ≡ shown (cond y es (e ∷ remove_entry test es))) [
      | true ↦ refl
      | false ↦ ap (λ l. (e.0, f e.1) ∷ l) (remove_entry-shown es)
    ]

    first-shown : (es : List (K × V)) (o : Option (K × V)) → shown (option_map_or (λ e. e ∷ remove_entry test es) o es) ≡ option_map_or (λ e. e ∷ remove_entry test (shown es)) (option_map (λ e. (e.0, f e.1)) o) (shown es)
    first-shown es None = refl
    first-shown es (Some e) = ap (λ l. (e.0, f e.1) ∷ l) (sym (remove_entry-shown es))

    pub promoted-shown : (es : List (K × V)) → shown (promoted test es) ≡ promoted test (shown es)
    promoted-shown es = first-shown es (lookup_entry test es) ∙ ap (λ o. option_map_or (λ e. e ∷ remove_entry test (shown es)) o (shown es)) (sym (lookup_entry-shown es))

  -- a new key goes first
  pub put_new-shown : (eq : K → K → Bool) (c : LruCache K V) (k : K) (v : V) → lookup_entry (eq k) (shown c.entries) ≡ None → shown (put_entries eq c k v) ≡ (k, f v) ∷ take (c.cap - 1) (shown c.entries)
  put_new-shown eq c k v absent = none-shown (lookup_entry (eq k) c.entries) (sym (lookup_entry-shown (eq k) c.entries) ∙ absent)
    where
      none-shown : (o : Option (K × V)) → option_map {U = K × W} (λ e. (e.0, f e.1)) o ≡ None → shown (option_map_or (λ e. (e.0, v) ∷ remove_entry (eq k) c.entries) o ((k, v) ∷ take (c.cap - 1) c.entries)) ≡ (k, f v) ∷ take (c.cap - 1) (shown c.entries)
      none-shown None h = ap (λ l. (k, f v) ∷ l) (sym (take-map (λ e. (e.0, f e.1)) (c.cap - 1) c.entries))
      none-shown (Some e) h = absurd cc
