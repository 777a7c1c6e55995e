use Rattle.py_lexer.proofs.WholeText.{one_list, one_fault, not_both, one_answer}
use Rattle.py_lexer.proofs.Covered.{piece_front}
use Rattle.py_lexer.proofs.lex.one_reading.Goals as goal

pub returns : goal.returns
returns c = record { fronts = λ p q s r k d. piece_front d; one_list = λ p s ks ls a b. one_list a b; one_fault = λ p s f g a b. one_fault a b; not_both = λ p s ks f a b. not_both a b; one_answer = λ bytes r s a b. one_answer a b }
