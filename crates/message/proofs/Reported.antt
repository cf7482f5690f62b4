-- A status that is read says something. Assumes nothing.
use Rattle.std.proofs.Common.{◌≡◌, ℕ, Bool, true, not, ◌&&◌, ◌||◌, List, [], ◌∷◌, ◌++◌, is_some, Some, None, Option, refl, ap, ◌∙◌, subst, inl, inr}
use Rattle.std.proofs.lemmas.Slice.Eq.{bytes_eq-Decides}
use Rattle.std.specs.Str.{bytes_eq}
use Rattle.std.proofs.lemmas.Bool.{and_parts, or_cases, both_ways, not-true}
use Rattle.fields.specs.declared.headers.Qualifier.{Qualifier}
use Rattle.format.specs.Simple.{is_reference}
use Rattle.format.specs.Texts.{and_then}
use Rattle.format.proofs.NumberLaws.{word_sound}
use Rattle.sheet.specs.Order.{order_fault}
use Rattle.sheet.specs.Rows.{is_qualifier, admits}
use Rattle.sheet.specs.declared.rows.Format.TheVariants.{Code}
use Rattle.sheets.specs.declared.standard.StandardSheet.TheVariants.{Mt567}
use Rattle.sheets.specs.Codes.{among, paired, status_functions, status_pairs, reason_pairs}
use Rattle.sheets.specs.Standards.{codes_of}
use Rattle.sheets.specs.Tables.{rows567}
use Rattle.sheets.specs.Words.{qualifier}
use Rattle.reader.specs.declared.table.Entry.{Entry}
use Rattle.reader.specs.Tables.{table_of}
use Rattle.reader.specs.Values.{headed, value_fits, value_fault}
use Rattle.message.specs.declared.status.Process.{Process}
use Rattle.message.specs.declared.status.Process.TheVariants.{Instruction, Cancellation}
use Rattle.message.specs.Reporting.{function_of, function_in, process_of, process_in, code_of, status_in}
use Rattle.message.specs.Rows.{in567}
use Rattle.message.specs.Values.{content_in, as_reference}
use Rattle.message.proofs.Never.{never}
use Rattle.message.proofs.Decoding.{then_there, then_at, among_each, behind, two_qualifiers, reference_there, value_there, whole_there, part_there}

-- 23G has one of the two functions
function_there : (v : List ℕ) → among status_functions v ≡ true → is_some (function_of v) ≡ true
function_there = among_each (λ v. is_some (function_of v) ≡ true) status_functions (refl, (refl, tt))

-- each code that stands under the qualifier in these pairs is one of the seven
abbrev known : Qualifier → List (Qualifier × List ℕ) → Bool
known q [] = true
known q (p ∷ ps) = (not (is_qualifier p.0 q) || is_some (code_of p.1)) && known q ps

code_there : (q : Qualifier) (ps : List (Qualifier × List ℕ)) → known q ps ≡ true → (c : List ℕ) → paired ps q c ≡ true → is_some (code_of c) ≡ true
code_there q [] k c h = never h
code_there q (p ∷ ps) k c h =
    let both = and_parts (not (is_qualifier p.0 q) || is_some (code_of p.1)) (known q ps) k in
    elim (or_cases (is_qualifier p.0 q && bytes_eq p.1 c) (paired ps q c) h) [
      | inl e ↦
          (let m = and_parts (is_qualifier p.0 q) (bytes_eq p.1 c) e in
          elim (or_cases (not (is_qualifier p.0 q)) (is_some (code_of p.1)) both.0) [
            | inl n ↦ absurd (both_ways (is_qualifier p.0 q) (not-true _ n) m.0)
            | inr n ↦ subst (λ (x : List ℕ). is_some (code_of x) ≡ true) ((bytes_eq-Decides p.1 c).0 m.1) n
          ])
      | inr e ↦ code_there q ps both.1 c e
    ]

-- 25D has a process and a code that is known
abbrev Stated : List ℕ → Type 0
Stated v = (s : Process × List ℕ) × (process_of v ≡ Some s) × (is_some (code_of s.1) ≡ true)

stated_under : (q : Qualifier) (p : Process) → ((c : List ℕ) → process_of (headed (Some q) ++ c) ≡ Some (p, c))
    → ((c : List ℕ) → codes_of Mt567 11 (Some q) c ≡ true → is_some (code_of c) ≡ true)
    → (v : List ℕ) → value_fits (codes_of Mt567 11 (Some q)) (Some q) Code v ≡ true → Stated v
stated_under q p reads good v h =
    let b = behind (headed (Some q)) v (codes_of Mt567 11 (Some q)) h in
    ((p, b.0), ap process_of (word_sound (headed (Some q)) v b.0 b.1) ∙ reads b.0, good b.0 b.2)

cancellation : (v : List ℕ) → value_fits (codes_of Mt567 11 (Some (qualifier "CPRC"))) (Some (qualifier "CPRC")) Code v ≡ true → Stated v
cancellation = stated_under (qualifier "CPRC") Cancellation (λ c. refl) (code_there (qualifier "CPRC") (status_pairs ++ reason_pairs) refl)

instruction : (v : List ℕ) → value_fits (codes_of Mt567 11 (Some (qualifier "IPRC"))) (Some (qualifier "IPRC")) Code v ≡ true → Stated v
instruction = stated_under (qualifier "IPRC") Instruction (λ c. refl) (code_there (qualifier "IPRC") (status_pairs ++ reason_pairs) refl)

stated : (v : List ℕ) (q : Option Qualifier) → admits (qualifier "CPRC" ∷ qualifier "IPRC" ∷ []) q ≡ true
    → value_fits (codes_of Mt567 11 q) q Code v ≡ true → Stated v
stated v q a h = elim (two_qualifiers (qualifier "CPRC") (qualifier "IPRC") q a) [
  | inl e ↦ cancellation v (subst (λ (x : Option Qualifier). value_fits (codes_of Mt567 11 x) x Code v ≡ true) e h)
  | inr e ↦ instruction v (subst (λ (x : Option Qualifier). value_fits (codes_of Mt567 11 x) x Code v ≡ true) e h)
]

module _ (text : List ℕ) (ordered : order_fault rows567 text ≡ None) (valued : value_fault rows567 (codes_of Mt567) text ≡ None) where
  abbrev es : List Entry
  es = table_of rows567 text

  function : is_some (function_in text es) ≡ true
  function =
      let t = whole_there rows567 (codes_of Mt567) text ordered valued 3 _ refl refl refl in
      ap (λ (o : Option (List ℕ)). is_some (and_then o function_of)) t.1 ∙ function_there t.0 t.2

  event : is_some (and_then (content_in text es (in567 "20C" "CORP")) as_reference) ≡ true
  event = part_there rows567 (codes_of Mt567) text ordered valued _ _ refl refl refl is_reference (λ v. refl) as_reference reference_there

  related : is_some (and_then (content_in text es (in567 "20C" "RELA")) as_reference) ≡ true
  related = part_there rows567 (codes_of Mt567) text ordered valued _ _ refl refl refl is_reference (λ v. refl) as_reference reference_there

  process : (s : Process × List ℕ) × (process_in text es ≡ Some s) × (is_some (code_of s.1) ≡ true)
  process =
      let t = value_there rows567 (codes_of Mt567) text ordered valued 11 _ refl refl in
      let s = stated t.0 t.2.0 t.2.1 t.2.2 in
      (s.0, ap (λ (o : Option (List ℕ)). and_then o process_of) t.1 ∙ s.1, s.2)

  pub status_there : is_some (status_in text es) ≡ true
  status_there =
      then_there _ _ event (λ a.
      then_there _ _ function (λ b.
      then_there _ _ related (λ c.
      then_at (process_in text es) process.0 _ process.1 (then_there _ _ process.2 (λ d. refl)))))
