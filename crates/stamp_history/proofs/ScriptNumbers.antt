-- A script that was read is one of program values.
use Rattle.std.proofs.Common.{◌≡◌, ◌≤◌, ℕ, ◌+◌, List, ◌∷◌, length, Bool, true, false, Option, Some, None, Result}
use Rattle.std.proofs.Common.{Ok, Err, refl, subst, option_map, option_and_then}
use Rattle.std.specs.Prelude.{◌&&◌, not, nat_le, codes, Decides, if◌then◌else◌}
use Rattle.std.specs.List.{All, list_all}
use Rattle.std.specs.Option.{option_map_or}
use Rattle.std.specs.Str.{bytes_eq}
use Rattle.std.proofs.lemmas.Bool.{and_parts, leb-true, ltb-false}
use Rattle.std.proofs.lemmas.Bool.Decides.{Decides-by_and}
use Rattle.std.proofs.lemmas.List.Elements.{All-nil, All-cons}
use Rattle.serde_json.specs.Data.{Data, Items, no_items, item}
use Rattle.serde_json.specs.Find as find
use Rattle.stamp_core.specs.Layout.{units_of}
use Rattle.stamp_core.specs.Limits.{AreInRange}
use Rattle.stamp_machines.specs.declared.script_error.ScriptError.{ScriptError}
use Rattle.stamp_machines.specs.declared.script_error.ScriptError.TheVariants.{NoSuchThread, RecordWidth}
use Rattle.stamp_machines.specs.Script.{Scripted, Suits, IsSound}
use Rattle.stamp_machines.specs.declared.script.Arg.{Arg}
use Rattle.stamp_machines.specs.declared.script.Arg.TheVariants.{Number, Of}
use Rattle.stamp_machines.specs.declared.script.ScriptCall.{ScriptCall}
use Rattle.stamp_machines.specs.declared.script.ScriptCall.TheVariants.{Put, PutIf}
use Rattle.stamp_history.specs.FirstFault.{suits, are_short, are_suited, first_unknown, width_fault, first_fault}
use Rattle.stamp_history.specs.HistoryLaws.{IsU64}
use Rattle.stamp_history.specs.JsonReading.{◌>>=◌, json_of, kind, ranged, each}
use Rattle.stamp_history.specs.JsonValue.{whole, whole_under, list_under}
use Rattle.stamp_history.specs.LimitFields as limit
use Rattle.stamp_history.specs.ScriptCallValue.{stamp_of_call, stamp, plain_call, stamp_call, call_with}
use Rattle.stamp_history.specs.ScriptCallValue.{call_with_two, listed_call, script_call}
use Rattle.stamp_history.specs.ScriptReading.{script_in, faultless, script_of}
use Rattle.stamp_history.specs.ScriptValue.{top, width, are_lists, as_lists, listed_threads, call_at, thread_at}
use Rattle.stamp_history.specs.ScriptValue.{threads, steps}
use Rattle.stamp_history.specs.WordsValue.{numbers, as_words, listed_words, words}
use Rattle.stamp_history.specs.declared.read_error.ReadError.{ReadError}
use Rattle.stamp_history.specs.declared.read_error.ReadError.TheVariants.{BadScript}
use Rattle.stamp_history.specs.declared.text_kind.TextKind.{TextKind}
use Rattle.stamp_history.specs.declared.text_kind.TextKind.TheVariants as text
use Rattle.stamp_history.proofs.FirstFaults.{at_most, one_suits}
use Rattle.stamp_history.proofs.NumbersRead.{Finds, finds, finds_none, finds_mapped, finds_then, finds_either}
use Rattle.stamp_history.proofs.NumbersRead.{DataIsU64, ItemsAreU64, read_u64, array_u64, list_u64, whole_u64}
use Rattle.stamp_history.proofs.RunReplies.{ArgIsU64, ScriptCallIsU64, ThreadsAreU64}

-- the fact holds of what was read, unless there is a fault
pub record Reads {A : Type 0} (P : A → Type 0) (reading : Result A ReadError) : Type 0 where
  pub is : (x : A) → reading ≡ Ok x → P x

pub reads : {A : Type 0} {P : A → Type 0} {x : A} → P x → Reads P (Ok x)
reads {A} {P} {x} holds = record { is = λ y e. let same : x ≡ y = cc in subst P same holds }

refuses : {A : Type 0} {P : A → Type 0} {e : ReadError} → Reads P (Err e)
refuses {A} {P} {e} = record { is = λ x same. cc }

pub reads_then : {A B : Type 0} {P : A → Type 0} {Q : B → Type 0} (reading : Result A ReadError)
    (f : A → Result B ReadError) → Reads P reading → ((x : A) → P x → Reads Q (f x)) → Reads Q (reading >>= f)
reads_then (Ok x) f first more = more x (first.is x refl)
reads_then (Err e) f first more = refuses

-- what is read says nothing
pub reads_any : {A : Type 0} (reading : Result A ReadError) → Reads (λ x. Unit {0}) reading
reads_any reading = record { is = λ x e. tt }

pub reads_kind : {A : Type 0} {P : A → Type 0} (mistake : ReadError) (found : Option A) → Finds P found →
    Reads P (kind mistake found)
reads_kind mistake None first = refuses
reads_kind mistake (Some x) first = reads (first.is x refl)

reads_ranged : {A : Type 0} (mistake over : ReadError) (fits : A → Bool) (found : Option A) →
    Reads (λ x. fits x ≡ true) (ranged mistake over fits found)
reads_ranged mistake over fits None = refuses
reads_ranged {A} mistake over fits (Some x) = by (fits x) refl
  where
    by : (b : Bool) → fits x ≡ b → Reads (λ y. fits y ≡ true) (if b then Ok x else Err over)
    by true e = reads e
    by false e = refuses

pub reads_each : {A : Type 0} {P : A → Type 0} (one : ℕ → Data → Result A ReadError) →
    ((i : ℕ) (d : Data) → DataIsU64 d → Reads P (one i d)) → (i : ℕ) (ds : Items) → ItemsAreU64 ds →
    Reads (All P) (each one i ds)
reads_each {A} {P} one known i no_items fits = reads (All-nil P)
reads_each {A} {P} one known i (item d ds) fits =
    reads_then (one i d) (λ first. each one (i + 1) ds >>= λ later. Ok (first ∷ later)) (known i d fits.0)
    (λ x holds. reads_then (each one (i + 1) ds) (λ later. Ok (x ∷ later)) (reads_each one known (i + 1) ds fits.1)
    (λ xs rest. reads (All-cons P x xs holds rest)))

-- ---- the calls

numbers_u64 : (ds : Items) → ItemsAreU64 ds → Finds (All IsU64) (numbers ds)
numbers_u64 no_items fits = finds (All-nil IsU64)
numbers_u64 (item d ds) fits =
    finds_then (λ n. option_map (λ ns. n ∷ ns) (numbers ds)) (whole d) (whole_u64 d fits.0)
    (λ n holds. finds_mapped (λ ns. n ∷ ns) (numbers ds) (numbers_u64 ds fits.1)
    (λ ns rest. All-cons IsU64 n ns holds rest))

pub words_u64 : (d : Data) → DataIsU64 d → Finds (All IsU64) (words d)
words_u64 d fits =
    finds_then listed_words (find.as_array d) (array_u64 d fits)
    (λ ds items. finds_then as_words (numbers ds) (numbers_u64 ds items)
    (λ ns holds. finds_either (nat_le 1 (length ns) && nat_le (length ns) 16) (finds holds) finds_none))

-- a stamp of a call has no number
call_stamp_u64 : (ds : Items) → Finds ArgIsU64 (stamp_of_call ds)
call_stamp_u64 no_items = finds_none
call_stamp_u64 (item thread no_items) = finds_none
call_stamp_u64 (item thread (item call no_items)) = by (whole thread) (whole call)
  where
    by : (t c : Option ℕ) → Finds ArgIsU64 (option_and_then (λ n. option_map (Of n) c) t)
    by None c = finds_none
    by (Some t) None = finds_none
    by (Some t) (Some c) = finds tt
call_stamp_u64 (item thread (item call (item further rest))) = finds_none

stamp_u64 : (d : Data) → DataIsU64 d → Finds ArgIsU64 (stamp d)
stamp_u64 d fits = by (find.as_array d)
  where
    by : (list : Option Items) → Finds ArgIsU64 (option_map_or stamp_of_call list (option_map Number (whole d)))
    by None = finds_mapped Number (whole d) (whole_u64 d fits) (λ n holds. holds)
    by (Some ds) = call_stamp_u64 ds

plain_u64 : (name : List ℕ) → Finds ScriptCallIsU64 (plain_call name)
plain_u64 name =
    finds_either (bytes_eq name (codes "try_write")) (finds tt)
    (finds_either (bytes_eq name (codes "try_read")) (finds tt)
    (finds_either (bytes_eq name (codes "write_lock")) (finds tt)
    (finds_either (bytes_eq name (codes "read_lock")) (finds tt)
    (finds_either (bytes_eq name (codes "optimistic")) (finds tt)
    (finds_either (bytes_eq name (codes "try_unlock_write")) (finds tt)
    (finds_either (bytes_eq name (codes "try_unlock_read")) (finds tt)
    (finds_either (bytes_eq name (codes "is_write_locked")) (finds tt)
    (finds_either (bytes_eq name (codes "is_read_locked")) (finds tt)
    (finds_either (bytes_eq name (codes "read_count")) (finds tt)
    (finds_either (bytes_eq name (codes "get")) (finds tt) finds_none))))))))))

with_stamp_u64 : (name : List ℕ) (a : Arg) → ArgIsU64 a → Finds ScriptCallIsU64 (stamp_call name a)
with_stamp_u64 name a fits =
    finds_either (bytes_eq name (codes "validate")) (finds fits)
    (finds_either (bytes_eq name (codes "unlock_write")) (finds fits)
    (finds_either (bytes_eq name (codes "unlock_read")) (finds fits)
    (finds_either (bytes_eq name (codes "unlock")) (finds fits)
    (finds_either (bytes_eq name (codes "to_write")) (finds fits)
    (finds_either (bytes_eq name (codes "to_read")) (finds fits)
    (finds_either (bytes_eq name (codes "to_optimistic")) (finds fits) finds_none))))))

with_one_u64 : (name : List ℕ) (d : Data) → DataIsU64 d → Finds ScriptCallIsU64 (call_with name d)
with_one_u64 name d fits =
    finds_either (bytes_eq name (codes "put"))
    (finds_mapped Put (words d) (words_u64 d fits) (λ ws holds. holds))
    (finds_then (stamp_call name) (stamp d) (stamp_u64 d fits) (with_stamp_u64 name))

with_two_u64 : (name : List ℕ) (expected new : Data) → DataIsU64 expected → DataIsU64 new →
    Finds ScriptCallIsU64 (call_with_two name expected new)
with_two_u64 name expected new fits also =
    finds_either (bytes_eq name (codes "put_if"))
    (finds_then (λ found. option_map (PutIf found) (words new)) (words expected) (words_u64 expected fits)
    (λ found holds. finds_mapped (PutIf found) (words new) (words_u64 new also) (λ ws rest. (holds, rest))))
    finds_none

-- of a name, if there is one
named : (f : List ℕ → Option ScriptCall) → ((name : List ℕ) → Finds ScriptCallIsU64 (f name)) → (d : Data) →
    Finds ScriptCallIsU64 (option_and_then f (find.as_str d))
named f known d = by (find.as_str d)
  where
    by : (name : Option (List ℕ)) → Finds ScriptCallIsU64 (option_and_then f name)
    by None = finds_none
    by (Some name) = known name

pub listed_u64 : (ds : Items) → ItemsAreU64 ds → Finds ScriptCallIsU64 (listed_call ds)
listed_u64 no_items fits = finds_none
listed_u64 (item name no_items) fits = named plain_call plain_u64 name
listed_u64 (item name (item argument no_items)) fits =
    named (λ text. call_with text argument) (λ text. with_one_u64 text argument fits.1.0) name
listed_u64 (item name (item expected (item new no_items))) fits =
    named (λ text. call_with_two text expected new) (λ text. with_two_u64 text expected new fits.1.0 fits.1.1.0) name
listed_u64 (item name (item expected (item new (item further rest)))) fits = finds_none

call_u64 : (t i : ℕ) (d : Data) → DataIsU64 d → Reads ScriptCallIsU64 (call_at t i d)
call_u64 t i d fits =
    reads_kind _ (script_call d) (finds_then listed_call (find.as_array d) (array_u64 d fits) listed_u64)

-- ---- the fields

thread_u64 : (t : ℕ) (d : Data) → DataIsU64 d → Reads (All ScriptCallIsU64) (thread_at t d)
thread_u64 t d fits =
    reads_then _ (each (call_at t) 0) (reads_kind _ (find.as_array d) (array_u64 d fits))
    (λ ds items. reads_each (call_at t) (call_u64 t) 0 ds items)

threads_u64 : (d : Data) → DataIsU64 d → Reads ThreadsAreU64 (threads d)
unfolding threads
threads_u64 d fits =
    reads_then (listed_threads d) (each thread_at 0)
    (reads_kind _ _ (finds_then as_lists (list_under (codes "threads") d) (list_u64 (codes "threads") d fits)
    (λ ds items. finds_either (are_lists ds) (finds items) finds_none)))
    (λ ds items. reads_each thread_at thread_u64 0 ds items)

pub limits_in_range : (kind : TextKind) (d : Data) → Reads AreInRange (limit.limits kind d)
unfolding limit.limits
limits_in_range kind d =
    reads_then (limit.layout kind d) _ (reads_any _) (λ l _.
    reads_then (limit.readers kind l d) _ (reads_ranged _ _ _ (whole_under (codes "readers") d)) (λ r some.
    reads_then (limit.versions kind l d) _ (reads_ranged _ _ _ (whole_under (codes "versions") d)) (λ v few.
    let both = and_parts (nat_le 1 r) (nat_le r (units_of l).readers) some in
    reads (record {
      some_reader = leb-true 1 r both.0;
      readers = leb-true r (units_of l).readers both.1;
      versions = leb-true v (units_of l).versions few;
    }))))

record HasNumbers (script : Scripted) : Type 0 where
  range : AreInRange script.limits
  threads : ThreadsAreU64 script.threads

fields_read : (d : Data) → DataIsU64 d → Reads HasNumbers (script_in d)
unfolding script_in
fields_read d fits =
    reads_then (top d) _ (reads_any _) (λ _ _.
    reads_then (limit.limits text.Script d) _ (limits_in_range text.Script d) (λ l range.
    reads_then (width d) _ (reads_any _) (λ w _.
    reads_then (threads d) _ (threads_u64 d fits) (λ ts numbers.
    reads_then (steps d) _ (reads_any _) (λ ss _. reads (record { range = range; threads = numbers }))))))

-- ---- no fault

no_first : {A : Type 0} (b : Bool) (x : A) (y : Option A) → (if b then Some x else y) ≡ None →
    (b ≡ false) × (y ≡ None)
no_first true x y e = cc
no_first false x y e = (refl, e)

is_true : (b : Bool) → not b ≡ false → b ≡ true
is_true true e = refl
is_true false e = cc

short : (threads : List (List ScriptCall)) → Decides (are_short threads)
    (All (λ (calls : List ScriptCall). length calls ≤ 10000) threads)
short = Decides-by_and (λ (calls : List ScriptCall). nat_le (length calls) 10000)
    (λ (calls : List ScriptCall). length calls ≤ 10000) are_short (λ calls. at_most (length calls) 10000) refl
    (λ _ _. refl)

suited : (width : ℕ) (threads : List (List ScriptCall)) → Decides (are_suited width threads)
    (All (λ (calls : List ScriptCall). All (Suits width) calls) threads)
suited width = Decides-by_and (list_all (suits width)) (λ (calls : List ScriptCall). All (Suits width) calls)
    (are_suited width) (Decides-by_and (suits width) (Suits width) (list_all (suits width)) (one_suits width) refl
    (λ _ _. refl)) refl (λ _ _. refl)

record IsFaultless (script : Scripted) : Type 0 where
  threads : length script.threads ≤ 64
  short : All (λ (calls : List ScriptCall). length calls ≤ 10000) script.threads
  steps : length script.steps ≤ 1000000
  width : script.width ≤ 16
  suited : All (λ (calls : List ScriptCall). All (Suits script.width) calls) script.threads

none_found : (script : Scripted) → first_fault script ≡ None → IsFaultless script
unfolding first_fault
none_found script e =
    let first = no_first _ _ _ e in
    let second = no_first _ _ _ first.1 in
    let third = no_first _ _ _ second.1 in
    let fourth = rest (first_unknown (length script.threads) script.steps) third.1 in
    let both = and_parts (nat_le script.width 16) (are_suited script.width script.threads) (wide _ fourth) in
    record {
      threads = ltb-false 64 (length script.threads) first.0;
      short = (short script.threads).0 (is_true (are_short script.threads) second.0);
      steps = ltb-false 1000000 (length script.steps) third.0;
      width = leb-true script.width 16 both.0;
      suited = (suited script.width script.threads).0 both.1;
    }
  where
    rest : (unknown : Option ℕ) →
        option_map_or (λ i. Some (NoSuchThread i)) unknown (width_fault script) ≡ None → width_fault script ≡ None
    rest None e = e
    rest (Some i) e = cc

    wide : (b : Bool) → Path (Option ScriptError) (if b then None else Some RecordWidth) None → b ≡ true
    wide true e = refl
    wide false e = cc

pub record IsProgramScript (script : Scripted) : Type 0 where
  pub sound : IsSound script
  pub threads : ThreadsAreU64 script.threads
  pub few : length script.steps ≤ 1000000

faultless_read : (script : Scripted) → HasNumbers script → Reads IsProgramScript (faultless script)
faultless_read script numbers = by (first_fault script) refl
  where
    by : (fault : Option ScriptError) → first_fault script ≡ fault →
        Reads IsProgramScript (option_map_or (λ e. Err (BadScript e)) fault (Ok script))
    by (Some e) is = refuses
    by None is =
        let good = none_found script is in
        reads (record {
          sound = record {
            range = numbers.range;
            width = good.width;
            threads = good.threads;
            short = good.short;
            suited = good.suited;
          };
          threads = numbers.threads;
          few = good.steps;
        })

pub program_script : (bytes : List ℕ) (script : Scripted) → script_of bytes ≡ Ok script → IsProgramScript script
unfolding script_of
program_script bytes script e = all.is script e
  where
    all : Reads IsProgramScript (json_of bytes >>= λ d. script_in d >>= faultless)
    all = reads_then (json_of bytes) _ (reads_kind _ _ (read_u64 bytes)) (λ d fits.
        reads_then (script_in d) faultless (fields_read d fits) faultless_read)
