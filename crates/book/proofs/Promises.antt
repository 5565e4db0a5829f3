-- What a reading promises, from what the rules say of the bytes.
use Rattle.std.proofs.Common.{◌≡◌, ℕ, ◌-◌, ◌<◌, ◌≤◌, Bool, true, false, ◌&&◌, T, leb, List, length, get_or, Some, None, Ok, Err, Option, sym, refl, ap, ◌∙◌, subst, ⊎_elim, mul_comm, arith, MatchOption}
use Rattle.std.proofs.lemmas.Nat.{mul-add-lt}
use Rattle.std.proofs.ByRecursion.{All-get_or}
use Rattle.std.proofs.lemmas.Bool.{and_parts, leb-true, cases_Bool}
use Rattle.notation.specs.Kind.{Kind, readable}
use Rattle.notation.specs.Known.{known}
use Rattle.book.specs.Grids.{Grid, ScoreOf, bytes_of}
use Rattle.book.specs.Books.{book_refusal, title_shape, held}
use Rattle.book.specs.Faults.{book_told}
use Rattle.book.specs.Reading.{Reading, Holds, has_place, byte_place, cell_number}
use Rattle.book.specs.declared.fault.BookFault.{BookFault}
use Rattle.book.specs.declared.view.Book.{Book}
use Rattle.book.proofs.Fields.{Bytes}
use Rattle.book.proofs.Granted.{book_written}
use Rattle.book.proofs.Complete.{book_reads}
use Rattle.book.proofs.Cells.{place_read}

pub is_true : (b : Bool) → T b → b ≡ true
is_true true h = refl
is_true false h = absurd h

pub is_T : (b : Bool) → b ≡ true → T b
is_T b e = subst T (sym e) tt

-- the bytes of a score of a known kind hold that score
held_again : (k : Kind) (input : List ℕ) (g : Grid) → T (known k.number) → ScoreOf k g → input ≡ bytes_of k g → (book_refusal k input ≡ None) × (held input ≡ g)
held_again k input g known-kind score e =
    let r = book_reads k g score (is_true (known k.number) known-kind) in
    (ap (book_refusal k) e ∙ r.0, ap held e ∙ r.1)

module _ {S : Type 0} (k : Kind) (input : List ℕ) where
  pub reading_ok : Bytes input → book_refusal k input ≡ None → (b : Book S) → b.input.now ≡ input → b.tracks ≡ (title_shape input).tracks → b.columns ≡ (title_shape input).columns → Reading k input (Ok b)
  reading_ok bytes none b view tracks columns =
      let w = book_written k input bytes none in
      record {
        by_rules = none;
        granted = (
          is_T (known k.number) w.0,
          record { score = w.1; bytes = view ∙ w.2; tracks = tracks; columns = columns },
          view,
        );
        every = λ g known-kind score e. (refl, (held_again k input g known-kind score e).1);
      }

  pub reading_err : (f : BookFault) → book_refusal k input ≡ Some (book_told f) → Reading {S = S} k input (Err f)
  reading_err f refused =
      record {
        by_rules = refused;
        granted = tt;
        every = λ g known-kind score e. let none = (held_again k input g known-kind score e).0 in let z : ◌≡◌ {A = ℕ} 0 1 = cc in absurd (omega arith);
      }

-- a place that there is
pub place_bounds : (tracks columns column track : ℕ) → has_place tracks columns column track ≡ true → (1 ≤ column) × (column ≤ columns) × (1 ≤ track) × (track ≤ tracks)
place_bounds tracks columns column track e =
    let p = and_parts (leb 1 column && leb column columns && leb 1 track) (leb track tracks) e in
    let q = and_parts (leb 1 column && leb column columns) (leb 1 track) p.0 in
    let r = and_parts (leb 1 column) (leb column columns) q.0 in
    (leb-true 1 column r.0, leb-true column columns r.1, leb-true 1 track q.1, leb-true track tracks p.1)

-- a place of a book that was read
pub place_told : {S : Type 0} (k : Kind) (b : Book S) (g : Grid) → Holds k b g → (column track at : ℕ) → has_place b.tracks b.columns column track ≡ true → at ≡ byte_place b.tracks column track → (has_place g.tracks g.columns column track ≡ true) × (at < length b.input.now) × (get_or b.input.now at 0 ≡ get_or g.cells (cell_number g.tracks column track) 0) × T (readable k (get_or g.cells (cell_number g.tracks column track) 0))
place_told k b g holds column track at there e =
    let there' : has_place g.tracks g.columns column track ≡ true = (λ i. has_place (sym holds.tracks i) (sym holds.columns i) column track) ∙ there in
    let p = place_bounds g.tracks g.columns column track there' in
    let r = place_read k g holds.score.shaped column track p.0 p.1 p.2 p.3 in
    let at' : at ≡ byte_place g.tracks column track = e ∙ ap (λ t. byte_place t column track) holds.tracks in
    let inside : cell_number g.tracks column track < length g.cells = omega (arith, holds.score.shaped.whole, mul-add-lt (column - 1) g.tracks (track - 1) g.columns (omega arith) (omega arith), mul_comm g.tracks g.columns) in (
      there',
      subst (λ n. n < length b.input.now) (sym at') (subst (λ l. byte_place g.tracks column track < length l) (sym holds.bytes) r.0),
      (λ i. get_or (holds.bytes i) (at' i) 0) ∙ r.1,
      All-get_or (λ x. T (readable k x)) g.cells (cell_number g.tracks column track) 0 inside holds.score.symbols,
    )

-- where no byte of a place is told there is no such place
pub nowhere : {S : Type 0} (k : Kind) (b : Book S) (g : Grid) → Holds k b g → (column track : ℕ) → (has_place b.tracks b.columns column track ≡ true → length b.input.now ≤ byte_place b.tracks column track) → has_place g.tracks g.columns column track ≡ false
nowhere k b g holds column track past =
    (λ i. has_place (sym holds.tracks i) (sym holds.columns i) column track)
    ∙ ⊎_elim (λ there. absurd (omega (arith, past there, (place_told k b g holds column track (byte_place b.tracks column track) there refl).1))) (λ e. e) (cases_Bool (has_place b.tracks b.columns column track))

-- a symbol read from a byte that can be read
pub told_there : {S : Type 0} (byte : S → ℕ) (o : Option S) (R : Type 0) (x y : ℕ) (there : Bool) → MatchOption o (R → ⊥) (λ s. byte s ≡ x) → R → there ≡ true → x ≡ y → MatchOption o (there ≡ false) (λ s. (there ≡ true) × (byte s ≡ y))
told_there byte None R x y there h r t e = absurd (h r)
told_there byte (Some s) R x y there h r t e = (t, h ∙ e)
