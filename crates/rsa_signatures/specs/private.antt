pub mod KeyFields
