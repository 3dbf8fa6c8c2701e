pub mod OperationLines
