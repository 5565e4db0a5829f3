-- Rows: the prices of one note's rests, at the places that hold the byte wanted, in a part of a sheet; and the
-- window that the places of a row are taken into.
use Rattle.std.specs.Prelude.{◌≡◌, ℕ, ◌+◌, ◌/◌, ◌%◌, ◌<◌, ◌≤◌, true, false, cond, List, length, drop, Some, None, count_by, Option, ◌==◌, nat_eq, nat_lt, slice_index_or}
use Rattle.std.specs.List.{slice_get}
use Rattle.notation.specs.Kind.{rest}
use Rattle.price.specs.Pricing.{Pricing}
use Rattle.price.specs.History.{History, Least, Told, cost}
use Rattle.price.specs.Answers.{Holds}
use Rattle.price.specs.declared.entry.Entry.{Entry}
use Rattle.price.specs.declared.window.Window.{Window}
use Rattle.search.specs.Tables.{later}
use Rattle.search.specs.declared.choosing.Over.{Over}

-- the column and the track of a place, counted from 1
abbrev pub column_of : ℕ → ℕ → ℕ
column_of tracks q = q / tracks + 1

abbrev pub track_of : ℕ → ℕ → ℕ
track_of tracks q = q % tracks + 1

-- what a row has at a place: nothing where another byte stands
unfoldable pub value : {P : Type 0} → List ℕ → ℕ → ℕ → List (Option P) → ℕ → Option P
value bytes b offset prices q = cond (nat_lt q (length bytes)) (cond (slice_index_or bytes q rest == b) (slice_index_or prices (offset + later bytes q) None) None) None

-- the entry of a place with a price
abbrev pub entry_at : {P : Type 0} → ℕ → ℕ → P → Entry P
entry_at tracks q a = record { position = column_of tracks q; place = q; price = a }

-- Of the places from u on that hold the byte b, exactly those with a price in the row were put into the window.
pub record Fed {P : Type 0} (p : Pricing) (meaning : P → p.Meaning) (bytes : List ℕ) (tracks b : ℕ) (row : ℕ → Option P) (w : Window P) (u : ℕ) (h : History P) : Type 0 where
  pub holds : Holds p meaning w h
  pub sound : (k : ℕ) (e : Entry P) → slice_get h.puts k ≡ Some e → (u ≤ e.place) × (e.place < length bytes) × (e.position ≡ column_of tracks e.place) × (row e.place ≡ Some e.price)
  pub complete : (q : ℕ) (a : P) → u ≤ q → q < length bytes → row q ≡ Some a → (k : ℕ) × (slice_get h.puts k ≡ Some (entry_at tracks q a))
  pub few : length h.puts ≤ count_by (nat_eq b) (drop u bytes)
  pub room : count_by (nat_eq b) bytes ≤ h.memory

-- a later history of the same window
pub record Onward {P : Type 0} (from : ℕ) (h h' : History P) : Type 0 where
  pub position : from ≤ h'.position
  pub limit : h'.limit ≡ h.limit
  pub memory : h'.memory ≡ h.memory

-- What the window tells at its position as the least place to be handed over to: its entry, and the price charged
-- for the hand-over.
pub record HandedTo {P : Type 0} (p : Pricing) (meaning : P → p.Meaning) (h : History P) (o : Over P) : Type 0 where
  pub entry : Entry P
  pub least : Least p meaning h entry
  pub place_is : o.place ≡ entry.place
  pub price_is : meaning o.price ≡ cost p meaning h.position entry

abbrev pub Hands : {P : Type 0} (p : Pricing) → (P → p.Meaning) → History P → Option (Over P) → Type 0
Hands p meaning h None = Told p meaning h None
Hands p meaning h (Some o) = HandedTo p meaning h o

-- the step to the next column of the track; any other step is the place that is handed over to
abbrev pub going_on : ℕ
going_on = 4294967295

-- of going on and being handed over the cheaper one is chosen, going on where they cost the same
pub data Chosen {P : Type 0} (p : Pricing) (meaning : P → p.Meaning) : Option P → Option (Over P) → Option P → ℕ → Type 0 where
  neither : {s : ℕ} → Chosen p meaning None None None s
  only_on : {a : P} → Chosen p meaning (Some a) None (Some a) going_on
  only_over : {o : Over P} → Chosen p meaning None (Some o) (Some o.price) o.place
  on : {a : P} {o : Over P} → (p.depth (meaning a) ≤ 63 → p.depth (meaning o.price) ≤ 63 → p.not_above (meaning a) (meaning o.price) ≡ true) → Chosen p meaning (Some a) (Some o) (Some a) going_on
  over : {a : P} {o : Over P} → (p.depth (meaning a) ≤ 63 → p.depth (meaning o.price) ≤ 63 → p.not_above (meaning a) (meaning o.price) ≡ false) → Chosen p meaning (Some a) (Some o) (Some o.price) o.place
