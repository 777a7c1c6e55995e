use Rattle.std.proofs.Common.{refl}
use Rattle.atom_ops.proofs.Cells.{prim_neg, compare_text}
use Rattle.atom_ops.proofs.SeenRows.{calculated_row, constant_row, equal_rows, index_row, opposite_row, order_row, signed_row, text_rows, truth_rows}
use Rattle.atom_ops.proofs.laws.calls_are_rows.Goals as goal

pub returns : goal.returns
returns c =
    record {
      int_op = λ op a b. refl;
      int_neg = λ a. refl;
      prim_op = λ op a b. refl;
      prim_neg = prim_neg;
      compare_text = compare_text;
      repr_text = λ text. refl;
      read_int = λ text. refl;
      signed = signed_row;
      opposite = opposite_row;
      is_true = truth_rows;
      calculate = calculated_row;
      order = order_row;
      are_equal = equal_rows;
      is_constant = constant_row;
      text_of = text_rows;
      joined = λ a b. refl;
      contains = λ part text. (refl, refl);
      begins = λ text part. refl;
      ends = λ text part. refl;
      place_in = index_row;
      character = λ n. refl;
      code_of = λ text. refl;
      magnitude = λ n. refl;
      length_as_int = λ text. refl;
    }
