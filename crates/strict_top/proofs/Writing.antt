-- What has been written so far of the bytes that are to be written.
use Rattle.std.proofs.Common.{◌≡◌, ◌≤◌, ℕ, ◌+◌, ◌-◌, List, [], ◌∷◌, ◌++◌, Option, Some, None, length, take, drop, refl, sym, ap, ◌∙◌, subst, append_assoc, length-append, arith}
use Rattle.std.specs.Option.{option_map, ForSome}
use Rattle.std.proofs.lemmas.List.{append-nil, take-append-drop, take_rest, length-take-le}
use Rattle.std.proofs.Math.Seq.{take-append_seam}
use Rattle.outside.specs.Bytes.{Appends, Takes}

-- From what a sink had at first, the bytes up to the rest were written, and took as much of its room.
pub record HasWritten (bytes rest : List ℕ) (first now : Option (List ℕ)) (room left : Option ℕ) : Type 0 where
  pub front : List ℕ
  pub whole : front ++ rest ≡ bytes
  pub appended : Appends first now front
  pub taken : Takes room left (length front)

-- nothing is written, and nothing taken
pub appends_nothing : (written : Option (List ℕ)) → Appends written written []
appends_nothing None = refl
appends_nothing (Some bytes) = ap Some (sym (append-nil bytes))

takes_nothing : (room : Option ℕ) → Takes room room 0
takes_nothing None = refl
takes_nothing (Some room) = ap Some (omega arith)

pub starts : (bytes : List ℕ) (written : Option (List ℕ)) (room : Option ℕ) → HasWritten bytes bytes written written room room
starts bytes written room = record { front = []; whole = refl; appended = appends_nothing written; taken = takes_nothing room }

appends_both : (a b c : Option (List ℕ)) (x y : List ℕ) → Appends a b x → Appends b c y → Appends a c (x ++ y)
appends_both None b c x y p q = q ∙ ap (option_map (λ w. w ++ y)) p
appends_both (Some w) b c x y p q = q ∙ ap (option_map (λ v. v ++ y)) p ∙ ap Some (append_assoc w x y)

takes_both : (a b c : Option ℕ) (m n : ℕ) → Takes a b m → Takes b c n → Takes a c (m + n)
takes_both None b c m n p q = q ∙ ap (option_map (λ r. r - n)) p
takes_both (Some r) b c m n p q = q ∙ ap (option_map (λ r. r - n)) p ∙ ap Some (omega arith)

-- where nothing is left, the front is the whole
all_front : (front rest bytes : List ℕ) → front ++ rest ≡ bytes → length rest ≡ 0 → front ≡ bytes
all_front front [] bytes whole none = sym (append-nil front) ∙ whole
all_front front (b ∷ rest) bytes whole none = absurd (omega arith)

-- a piece more is written
pub goes_on : {bytes rest : List ℕ} {first now : Option (List ℕ)} {room left : Option ℕ} (piece : List ℕ) (next : Option (List ℕ)) (less : Option ℕ) →
    HasWritten bytes (piece ++ rest) first now room left → Appends now next piece → Takes left less (length piece) → HasWritten bytes rest first next room less
goes_on {rest = rest} piece next less so_far more taken = record {
  front = so_far.front ++ piece;
  whole = append_assoc so_far.front piece rest ∙ so_far.whole;
  appended = appends_both _ _ _ _ _ so_far.appended more;
  taken = subst (Takes _ less) (sym (length-append so_far.front piece)) (takes_both _ _ _ _ _ so_far.taken taken);
}

-- the first bytes of the rest are written, and what is left is a slice of it
pub goes_on_by : {bytes rest : List ℕ} {first now : Option (List ℕ)} {room left : Option ℕ} (n : ℕ) (next : Option (List ℕ)) (less : Option ℕ) →
    HasWritten bytes rest first now room left → n ≤ length rest → Appends now next (take n rest) → Takes left less n →
    HasWritten bytes (take (length rest - n) (drop n rest)) first next room less
goes_on_by {bytes} {rest} {first} {now} {room} {left} n next less so_far short more taken =
    subst (λ r. HasWritten bytes r first next room less) (sym (take_rest rest n))
    (goes_on (take n rest) next less (subst (λ r. HasWritten bytes r first now room left) (sym (take-append-drop n rest)) so_far) more
    (subst (Takes left less) (sym (length-take-le n rest short)) taken))

-- all is written
pub all_written : {bytes rest : List ℕ} {first now : Option (List ℕ)} {room left : Option ℕ} → HasWritten bytes rest first now room left → length rest ≡ 0 → Appends first now bytes
all_written {bytes} {rest} {first} {now} so_far none = subst (Appends first now) (all_front so_far.front rest bytes so_far.whole none) so_far.appended

pub all_taken : {bytes rest : List ℕ} {first now : Option (List ℕ)} {room left : Option ℕ} → HasWritten bytes rest first now room left → length rest ≡ 0 → Takes room left (length bytes)
all_taken {bytes} {rest} {room = room} {left = left} so_far none = subst (λ b. Takes room left (length b)) (all_front so_far.front rest bytes so_far.whole none) so_far.taken

-- the first bytes of a piece more are written
pub part_written : {bytes : List ℕ} (rest : List ℕ) {first now : Option (List ℕ)} {room left : Option ℕ} (piece : List ℕ) (n : ℕ) (next : Option (List ℕ)) →
    HasWritten bytes (piece ++ rest) first now room left → Appends now next (take n piece) → (m : ℕ) × Appends first next (take m bytes)
part_written {bytes} rest piece n next so_far more =
    let written = so_far.front ++ take n piece in
    let whole : bytes ≡ written ++ (drop n piece ++ rest) =
    sym so_far.whole ∙ ap (λ p. so_far.front ++ (p ++ rest)) (sym (take-append-drop n piece))
    ∙ ap (λ p. so_far.front ++ p) (append_assoc (take n piece) (drop n piece) rest) ∙ sym (append_assoc so_far.front (take n piece) (drop n piece ++ rest)) in
    (length written, subst (Appends _ next) (sym (ap (take (length written)) whole ∙ take-append_seam written _)) (appends_both _ _ _ _ _ so_far.appended more))

-- nothing more is written
pub part_so_far : {bytes rest : List ℕ} {first now : Option (List ℕ)} {room left : Option ℕ} (next : Option (List ℕ)) →
    HasWritten bytes rest first now room left → next ≡ now → (m : ℕ) × Appends first next (take m bytes)
part_so_far {bytes} {rest} next so_far same =
    let front = so_far.front in
    (length front, subst (Appends _ next) (sym (ap (take (length front)) (sym so_far.whole) ∙ take-append_seam front rest)) (same ∙ so_far.appended))

-- what is left fits the room that is left
pub left_fits : {bytes rest : List ℕ} {first now : Option (List ℕ)} {room left : Option ℕ} → HasWritten bytes rest first now room left →
    ForSome room (λ r. length bytes ≤ r) → ForSome left (λ r. length rest ≤ r)
left_fits {bytes} {rest} {room = room} {left = left} so_far fits = by room so_far.taken fits
  where
    long : length so_far.front + length rest ≡ length bytes
    long = sym (length-append so_far.front rest) ∙ ap length so_far.whole

    by : (room : Option ℕ) → Takes room left (length so_far.front) → ForSome room (λ r. length bytes ≤ r) → ForSome left (λ r. length rest ≤ r)
    by None taken fits x is = absurd (cc)
    by (Some r) taken fits x is =
        let enough : length bytes ≤ r = fits r refl in
        let same : Some x ≡ Some (r - length so_far.front) = sym is ∙ taken in
        let x_is : x ≡ r - length so_far.front = cc in
        omega (arith, long)
