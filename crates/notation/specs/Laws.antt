-- The three kinds keep the laws.
use Rattle.std.specs.Prelude.{◌≡◌, ℕ, ◌+◌, ◌-◌, ◌%◌, ◌<◌, Bool, true, false, cond, ◌&&◌, T, ℤ, pos, ◌+ℤ◌, ◌-ℤ◌, Some, None, Option, ◌==◌, nat_lt, refl}
use Rattle.std.proofs.Common.{sym, ◌∙◌, ap, subst, arith, ltb→lt, eqb→eq}
use Rattle.std.proofs.Math.Dec.{eqb_refl}
use Rattle.std.specs.Int.{int_rem_euclid}
use Rattle.std.proofs.lemmas.Int.{ints, int_rem_euclid_is}
use Rattle.notation.specs.Kind.{Lawful}
use Rattle.notation.specs.Known.{pitch, pitch_class, stroke}

-- what is told between two bytes of which the tests are x and y
told : (x y : Bool) (v : Option ℤ) (c : ℤ) → cond (x && y) v None ≡ Some c → T x × T y × (v ≡ Some c)
told true true v c e = (tt, tt, e)
told true false v c e = let z : ◌≡◌ {A = ℕ} 0 1 = cc in absurd (omega arith)
told false y v c e = let z : ◌≡◌ {A = ℕ} 0 1 = cc in absurd (omega arith)

tell : (x y : Bool) (v : Option ℤ) → T x → T y → cond (x && y) v None ≡ v
tell true true v p q = refl
tell true false v p q = absurd q
tell false y v p q = absurd p

some_same : {A : Type 0} {a b : A} → Some a ≡ Some b → a ≡ b
some_same p = cc

pos_same : {a b : ℕ} → pos a ≡ pos b → a ≡ b
pos_same p = cc

pitch_told : (a b : ℕ) (c : ℤ) → pitch.interval a b ≡ Some c → T (nat_lt a 128) × T (nat_lt b 128) × (pos b -ℤ pos a ≡ c)
pitch_told a b c e = let t = told (nat_lt a 128) (nat_lt b 128) (Some (pos b -ℤ pos a)) c e in (t.0, t.1, some_same t.2)

pitch_tell : (a b : ℕ) (c : ℤ) → T (nat_lt a 128) → T (nat_lt b 128) → pos b -ℤ pos a ≡ c → pitch.interval a b ≡ Some c
pitch_tell a b c x y e = tell (nat_lt a 128) (nat_lt b 128) (Some (pos b -ℤ pos a)) x y ∙ ap Some e

pub pitch_lawful : Lawful pitch
pitch_lawful =
    record {
      sounding = λ a h. omega (arith, ltb→lt a 128 h);
      present = λ a b c e. let t = pitch_told a b c e in (t.0, t.1);
      same = λ a h. pitch_tell a a (pos 0) h h (omega (arith, ints));
      only_same = λ a b e. omega (arith, ints, (pitch_told a b (pos 0) e).2);
      chain = λ a b d c e p q. let s = pitch_told a b c p in let t = pitch_told b d e q in pitch_tell a d (c +ℤ e) s.0 t.1 (omega (arith, ints, s.2, t.2));
      back = λ a b c e. let s = pitch_told a b c e in (pos a -ℤ pos b, pitch_tell b a (pos a -ℤ pos b) s.1 s.0 refl);
      cancel = λ c e f _ _ _ h. omega (arith, ints);
    }

-- a number modulo 12, where 12 more is no less than 0
modulo : (z : ℤ) (m : ℕ) → z +ℤ pos 12 ≡ pos m → int_rem_euclid z (pos 12) ≡ pos (m % 12)
modulo z m e = int_rem_euclid_is z (pos 12) 12 1 m (omega arith) refl e

class_interval : (a b : ℕ) → a < 12 → int_rem_euclid (pos b -ℤ pos a) (pos 12) ≡ pos ((b + 12 - a) % 12)
class_interval a b l = modulo (pos b -ℤ pos a) (b + 12 - a) (omega (arith, ints))

-- an interval between pitch classes is the natural number n
class_told : (a b : ℕ) (c : ℤ) → pitch_class.interval a b ≡ Some c → T (nat_lt a 12) × T (nat_lt b 12) × (c ≡ pos ((b + 12 - a) % 12))
class_told a b c e =
    let t = told (nat_lt a 12) (nat_lt b 12) (Some (int_rem_euclid (pos b -ℤ pos a) (pos 12))) c e in
    (t.0, t.1, sym (some_same t.2) ∙ class_interval a b (ltb→lt a 12 t.0))

class_tell : (a b : ℕ) (c : ℤ) → T (nat_lt a 12) → T (nat_lt b 12) → pos ((b + 12 - a) % 12) ≡ c → pitch_class.interval a b ≡ Some c
class_tell a b c x y e = tell (nat_lt a 12) (nat_lt b 12) (Some (int_rem_euclid (pos b -ℤ pos a) (pos 12))) x y ∙ ap Some (class_interval a b (ltb→lt a 12 x) ∙ e)

-- two natural numbers in a row
class_follow : (c e : ℤ) (m n : ℕ) → c ≡ pos m → e ≡ pos n → int_rem_euclid (c +ℤ e) (pos 12) ≡ pos ((m + n) % 12)
class_follow c e m n p q = subst (λ i. i) (λ i. int_rem_euclid (sym p i +ℤ sym q i) (pos 12) ≡ pos ((m + n) % 12)) (int_rem_euclid_is (pos (m + n)) (pos 12) 12 0 (m + n) (omega arith) refl (omega (arith, ints)))

pub class_lawful : Lawful pitch_class
class_lawful =
    record {
      sounding = λ a h. omega (arith, ltb→lt a 12 h);
      present = λ a b c e. let t = class_told a b c e in (t.0, t.1);
      same = λ a h. class_tell a a (pos 0) h h (ap pos (omega (arith, ltb→lt a 12 h)));
      only_same = λ a b e. let s = class_told a b (pos 0) e in omega (arith, pos_same s.2, ltb→lt a 12 s.0, ltb→lt b 12 s.1);
      chain =
          λ a b d c e p q.
          let s = class_told a b c p in
          let t = class_told b d e q in
          let f = class_follow c e ((b + 12 - a) % 12) ((d + 12 - b) % 12) s.2 t.2 in
          class_tell a d (int_rem_euclid (c +ℤ e) (pos 12)) s.0 t.1 (ap pos (omega (arith, ltb→lt a 12 s.0, ltb→lt b 12 s.1, ltb→lt d 12 t.1)) ∙ sym f);
      back = λ a b c e. let s = class_told a b c e in (pos ((a + 12 - b) % 12), class_tell b a (pos ((a + 12 - b) % 12)) s.1 s.0 refl);
      cancel =
          λ c e f tc te tf h.
          let r = class_told tc.0 tc.1 c tc.2 in
          let s = class_told te.0 te.1 e te.2 in
          let t = class_told tf.0 tf.1 f tf.2 in
          let l = (tc.1 + 12 - tc.0) % 12 in
          let m = (te.1 + 12 - te.0) % 12 in
          let n = (tf.1 + 12 - tf.0) % 12 in
          let g = pos_same (sym (class_follow c e l m r.2 s.2) ∙ h ∙ class_follow c f l n r.2 t.2) in
          s.2 ∙ ap pos (omega (arith, g)) ∙ sym t.2;
    }

equal : (a b : ℕ) (v : Bool) (c : ℤ) → (T v → a ≡ b) → cond v (Some (pos 0)) None ≡ Some c → (a ≡ b) × (pos 0 ≡ c)
equal a b true c f e = (f tt, some_same e)
equal a b false c f e = let z : ◌≡◌ {A = ℕ} 0 1 = cc in absurd (omega arith)

stroke_told : (a b : ℕ) (c : ℤ) → stroke.interval a b ≡ Some c → T (nat_lt a 64) × T (nat_lt b 64) × (a ≡ b) × (pos 0 ≡ c)
stroke_told a b c e =
    let t = told (nat_lt a 64) (nat_lt b 64) (cond (a == b) (Some (pos 0)) None) c e in
    let s = equal a b (a == b) c (eqb→eq a b) t.2 in
    (t.0, t.1, s.0, s.1)

chosen : (v : Bool) → T v → cond v (Some (pos 0)) None ≡ Some (pos 0)
chosen true h = refl
chosen false h = absurd h

stroke_tell : (a b : ℕ) → T (nat_lt a 64) → a ≡ b → stroke.interval a b ≡ Some (pos 0)
stroke_tell a b h e = subst (λ x. stroke.interval a x ≡ Some (pos 0)) e (tell (nat_lt a 64) (nat_lt a 64) (cond (a == a) (Some (pos 0)) None) h h ∙ chosen (a == a) (eqb_refl a))

pub stroke_lawful : Lawful stroke
stroke_lawful =
    record {
      sounding = λ a h. omega (arith, ltb→lt a 64 h);
      present = λ a b c e. let t = stroke_told a b c e in (t.0, t.1);
      same = λ a h. stroke_tell a a h refl;
      only_same = λ a b e. (stroke_told a b (pos 0) e).2;
      chain = λ a b d c e p q. let s = stroke_told a b c p in let t = stroke_told b d e q in stroke_tell a d s.0 (s.2 ∙ t.2);
      back = λ a b c e. let s = stroke_told a b c e in (pos 0, stroke_tell b a s.1 (sym s.2));
      cancel = λ c e f tc te tf h. sym (stroke_told te.0 te.1 e te.2).3 ∙ (stroke_told tf.0 tf.1 f tf.2).3;
    }
