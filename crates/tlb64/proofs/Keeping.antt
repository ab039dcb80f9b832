-- What is kept of lookups, after a lookup and after a write.
use Rattle.std.proofs.Common.{◌≡◌, ℕ, zero, suc, ◌+◌, ◌*◌, ◌/◌, ◌%◌, ◌<◌, List, replicate, sym, ap, arith, false, refl, ◌∙◌}
use Rattle.std.proofs.lemmas.Nat.{div-mul-add, mod-mul-add, mod_below}
use Rattle.std.specs.Prelude.{Bool, nat_eq, nat_lt, ◌&&◌, ◌||◌, position, count_by, slice_index_or, Option, Some, slice_set}
use Rattle.std.specs.Option.{option_map}
use Rattle.r3k_word.specs.Word.{has}
use Rattle.std.proofs.lemmas.List.{length-set, length-replicate}
use Rattle.std.proofs.lemmas.List.Elements.{All-set, All-replicate}
use Rattle.tlb64.specs.declared.entry.Entry.{Entry}
use Rattle.tlb64.specs.declared.entry.Found.{Found}
use Rattle.tlb64.specs.declared.entry.TheConstants.{GLOBAL}
use Rattle.tlb64.specs.declared.kept.Kept.{Kept}
use Rattle.tlb64.specs.Entries.{page_of, process_of, empty_entry}
use Rattle.tlb64.specs.Lookup.{lookup_of}
use Rattle.tlb64.specs.Kept.{tag_of, IsOf, AreOf}

-- a process is below 64
process-below : (hi : ℕ) → process_of hi < 4096
process-below hi = let small : process_of hi < 64 = mod_below (hi / 64) 64 (omega arith) in omega (arith, small)

-- a tag gives the page and the process
tag-page : (a b p q : ℕ) → p < 4096 → q < 4096 → a * 4096 + p ≡ b * 4096 + q → a ≡ b
tag-page a b p q small also same = sym (div-mul-add a 4096 p small) ∙ ap (λ (n : ℕ). n / 4096) same ∙ div-mul-add b 4096 q also

tag-process : (a b p q : ℕ) → p < 4096 → q < 4096 → a * 4096 + p ≡ b * 4096 + q → p ≡ q
tag-process a b p q small also same = sym (mod-mul-add a 4096 p small) ∙ ap (λ (n : ℕ). n % 4096) same ∙ mod-mul-add b 4096 q also

-- no lookup has the tag of what is kept at reset and after a write
tag-apart : (page process : ℕ) → process < 64 → 4095 ≡ page * 4096 + process → ⊥
tag-apart zero process small same = omega (arith, small, same)
tag-apart (suc page) process small same = omega (arith, small, same)

pub none_kept : (entries : List Entry) → AreOf entries (replicate 16 (record { tag = 4095; lo = 0 }))
none_kept entries = record {
  count = length-replicate {A = Kept} 16 (record { tag = 4095; lo = 0 });
  each = All-replicate (IsOf entries) 16 (record { tag = 4095; lo = 0 })
      (λ address hi same. absurd (tag-apart (page_of address) (process_of hi) (mod_below (hi / 64) 64 (omega arith)) same));
}

-- the lookup of an address is that of its page
abbrev matches_page : ℕ → ℕ → Entry → Bool
matches_page page pid entry =
    nat_eq (page_of entry.hi) page && (has entry.lo GLOBAL || nat_eq (process_of entry.hi) pid)

abbrev lookup_of_page : List Entry → ℕ → ℕ → Option Found
lookup_of_page entries pid page =
    option_map (λ place. record {
      index = place;
      entry = slice_index_or entries place empty_entry;
      several = nat_lt 1 (count_by (matches_page page pid) entries);
    }) (position (matches_page page pid) entries)

same_lookup : (entries : List Entry) (a b p q : ℕ) → page_of a ≡ page_of b → p ≡ q → lookup_of entries b q ≡ lookup_of entries a p
same_lookup entries a b p q page process = rw (← process) (ap (lookup_of_page entries p) (sym page))

-- a lookup that found just one entry is kept
pub one_more : (entries : List Entry) (kept : List Kept) (slot address hi : ℕ) (found : Found)
    → AreOf entries kept → lookup_of entries address (process_of hi) ≡ Some found → found.several ≡ false
    → AreOf entries (slice_set kept slot (record { tag = tag_of address hi; lo = found.entry.lo }))
one_more entries kept slot address hi found are is sole = record {
  count = length-set kept slot _ ∙ are.count;
  each = All-set (IsOf entries) kept slot _
      (λ other new same. record {
        found = found;
        is = same_lookup entries address other (process_of hi) (process_of new) (tag-page _ _ _ _ (process-below hi) (process-below new) same) (tag-process _ _ _ _ (process-below hi) (process-below new) same) ∙ is;
        low = refl;
        sole = sole;
      }) are.each;
}
