pub mod HashFunction
